-- The three shapes of a line: an event with its objects, a death and a disposal pass.
use Rattle.std.specs.Prelude.{ℕ, Bool, ◌&&◌, ◌==◌, List, [], ◌∷◌, Option, Some, None, if◌then◌else◌}
use Rattle.std.specs.List.{list_all, before_first, after_first}
use Rattle.std.specs.Str.{bytes_eq}
use Rattle.jm_model.specs.Words.{Text}
use Rattle.jm_text.specs.Texts.{is_name_text}
use Rattle.jm_lines.specs.Objects.{is_object}

-- what a line says, by the texts that it names
pub data Statement : Type 0 where
  Event : (spec event : Text) (objects : List Text) → Statement
  Death : (object : Text) → Statement
  Pass : (spec : Text) → Statement

-- `death`
abbrev pub death_word : Text
death_word = 100 ∷ 101 ∷ 97 ∷ 116 ∷ 104 ∷ []

-- `pass`
abbrev pub pass_word : Text
pass_word = 112 ∷ 97 ∷ 115 ∷ 115 ∷ []

abbrev pub is_dot : ℕ → Bool
is_dot b = b == 46

-- `SPEC.EVENT OBJECT..`
abbrev pub event_statement : Text → List Text → Option Statement
event_statement word objects =
    if is_name_text (before_first is_dot word) && is_name_text (after_first is_dot word) && list_all is_object objects
    then Some (Event (before_first is_dot word) (after_first is_dot word) objects)
    else None

-- `death OBJECT`
abbrev pub death_statement : List Text → Option Statement
death_statement (object ∷ []) = if is_object object then Some (Death object) else None
death_statement _ = None

-- `pass SPEC`
abbrev pub pass_statement : List Text → Option Statement
pass_statement (spec ∷ []) = if is_name_text spec then Some (Pass spec) else None
pass_statement _ = None

-- what the words of a line say, if they have one of the shapes
abbrev pub statement_of : Text → List Text → Option Statement
statement_of word words =
    if bytes_eq word death_word then death_statement words
    else if bytes_eq word pass_word then pass_statement words
    else event_statement word words
