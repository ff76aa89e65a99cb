-- The grammar of a line's words.
use Rattle.std.specs.Prelude.{◌≡◌, true, List, [], ◌∷◌, ◌++◌, Some}
use Rattle.std.specs.List.{list_all}
use Rattle.jm_model.specs.Words.{Text}
use Rattle.jm_text.specs.Texts.{is_name_text}
use Rattle.jm_script.specs.Statements.{Statement, Event, Death, Pass, death_word, pass_word, statement_of}
use Rattle.jm_lines.specs.Objects.{is_object}

-- the words of a line spell an event with its objects: `SPEC.EVENT OBJECT..`
pub record SpellsEvent (word : Text) (words : List Text) (spec event : Text)
    (objects : List Text) : Type 0 where
  pub first : word ≡ spec ++ 46 ∷ event
  pub rest : words ≡ objects
  pub spec_named : is_name_text spec ≡ true
  pub event_named : is_name_text event ≡ true
  pub objects_named : list_all is_object objects ≡ true

-- or a word and the name after it
pub record SpellsOne (word expected : Text) (words : List Text) (name : Text) : Type 0 where
  pub first : word ≡ expected
  pub rest : words ≡ name ∷ []

-- the words of a line spell a statement
abbrev pub Spells : Text → List Text → Statement → Type 0
Spells word words (Event spec event objects) = SpellsEvent word words spec event objects
Spells word words (Death object) = SpellsOne word death_word words object × (is_object object ≡ true)
Spells word words (Pass spec) = SpellsOne word pass_word words spec × (is_name_text spec ≡ true)

-- what is spelled is read
abbrev pub SpelledIsRead : Type 0
SpelledIsRead = (word : Text) (words : List Text) (statement : Statement) → Spells word words statement
    → statement_of word words ≡ Some statement

-- the words of a line spell at most one statement
abbrev pub OneReading : Type 0
OneReading = (word : Text) (words : List Text) (statement other : Statement) → Spells word words statement
    → Spells word words other → statement ≡ other

-- what is read is spelled so
abbrev pub ReadIsSpelled : Type 0
ReadIsSpelled = (word : Text) (words : List Text) (statement : Statement)
    → statement_of word words ≡ Some statement → Spells word words statement
