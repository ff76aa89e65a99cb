-- The objects of scripts have names of their own.
use Rattle.std.proofs.Common.{◌≡◌, ℕ, ◌+◌, Bool, true, false, cond, ◌&&◌, List, [], ◌∷◌, length, Option, Some, None, Result, Ok, Err, IfOk, refl}
use Rattle.std.specs.Prelude.{nat_le, nat_lt}
use Rattle.std.specs.List.{list_all}
use Rattle.jm_model.specs.declared.fault.ScriptFault.{ScriptFault}
use Rattle.jm_model.specs.declared.fault.ScriptFault.TheVariants.{TooManyLines, TooManyObjects}
use Rattle.jm_events.specs.Names.{number_of, with_name}
use Rattle.jm_print.specs.Told.{IsName, AreNames}
use Rattle.jm_script.specs.declared.event.NamedEvent.{NamedEvent}
use Rattle.jm_script.specs.declared.script.Target.{Target}
use Rattle.jm_script.specs.declared.script.Target.TheVariants as target
use Rattle.jm_lines.specs.Lines.{lines_of, words_of}
use Rattle.jm_script.specs.Statements.{Statement, Event, Death, Pass, statement_of}
use Rattle.jm_lines.specs.Objects.{is_object_byte, is_object}
use Rattle.jm_script.specs.Objects.{mentioned, numbers_of}
use Rattle.jm_script.specs.Catalogs.{CatalogEntry, spec_names}
use Rattle.jm_script.specs.Events.{named_event, spread}
use Rattle.jm_script.specs.Meanings.{LineMeaning, ScriptMeaning, mentioning, event_meaning, pass_meaning, step_meaning, statement_meaning, words_meaning, line_meaning, with_line, steps_of, led_by, lines_meaning, script_meaning}
use Rattle.jm_script.specs.Spelling.{Spells}
use Rattle.jm_script.proofs.SpellingLemmas.{read_is_spelled}
use Rattle.jm_lines.proofs.WordLemmas.{both_left, both_right}
use Rattle.std.specs.Prelude.{slice_index}
use Rattle.jm_telling.proofs.NameLists.{name_mentioned, plain_bytes}

plain_object : (word : List ℕ) → is_object word ≡ true → IsName word
plain_object word h = plain_bytes is_object_byte refl refl refl refl word (both_right (nat_le 1 (length word) && nat_le (length word) 255) _ h)

-- names after mentions of objects
mentions_named : (names words : List (List ℕ)) → AreNames names → list_all is_object words ≡ true → AreNames (mentioned names words)
mentions_named names [] before h = before
mentions_named names (word ∷ words) before h =
    mentions_named (with_name names word) words (name_mentioned names word before (plain_object word (both_left _ _ h))) (both_right (is_object word) _ h)

-- ---- a line

-- the objects of a statement
abbrev objects_in : Statement → List (List ℕ)
objects_in (Event spec event objects) = objects
objects_in (Death object) = object ∷ []
objects_in (Pass spec) = []

alone : (object : List ℕ) → is_object object ≡ true → list_all is_object (object ∷ []) ≡ true
alone object h = rw h refl

objects_spelled : (word : List ℕ) (words : List (List ℕ)) (s : Statement) → Spells word words s → list_all is_object (objects_in s) ≡ true
objects_spelled word words (Event spec event objects) h = h.objects_named
objects_spelled word words (Death object) h = alone object h.1
objects_spelled word words (Pass spec) h = refl

-- the names after a line without a fault
abbrev LeavesNames : Result LineMeaning ScriptFault → Type 0
LeavesNames r = IfOk r (λ m. AreNames m.names)

module _ (names : List (List ℕ)) (before : AreNames names) where
  mentioning_named : (line : ℕ) (objects : List (List ℕ)) (target_of : List ℕ → Target) → list_all is_object objects ≡ true → LeavesNames (mentioning line names objects target_of)
  mentioning_named line objects target_of h = by_case (nat_le (length (mentioned names objects)) 65536)
    where
      by_case : (b : Bool) → LeavesNames (cond b (Ok (record { target = Some (target_of (numbers_of names objects)); names = mentioned names objects })) (Err (TooManyObjects line)))
      by_case true = mentions_named names objects before h
      by_case false = tt

  event_line_named : (line : ℕ) (objects : List (List ℕ)) (r : Result NamedEvent ScriptFault) → list_all is_object objects ≡ true → LeavesNames (event_meaning line names objects r)
  event_line_named line objects (Ok e) h = mentioning_named line objects (λ numbers. target.Event e.spec e.letter (spread 8 e.mask numbers)) h
  event_line_named line objects (Err fault) h = tt

  pass_line_named : (line : ℕ) (spec : Option ℕ) → LeavesNames (pass_meaning line names spec)
  pass_line_named line None = tt
  pass_line_named line (Some spec) = before

  step_named : (catalog : List CatalogEntry) (line : ℕ) (s : Statement) → list_all is_object (objects_in s) ≡ true → LeavesNames (step_meaning catalog line names s)
  step_named catalog line (Event spec event objects) h = event_line_named line objects (named_event catalog line spec event (length objects)) h
  step_named catalog line (Death object) h = mentioning_named line (object ∷ []) (λ numbers. target.Death (slice_index numbers 0)) h
  step_named catalog line (Pass spec) h = pass_line_named line (number_of (spec_names catalog) spec)

  statement_named : (catalog : List CatalogEntry) (count line : ℕ) (o : Option Statement) → ((s : Statement) → o ≡ Some s → list_all is_object (objects_in s) ≡ true) → LeavesNames (statement_meaning catalog count line names o)
  statement_named catalog count line None h = tt
  statement_named catalog count line (Some s) h = by_case (nat_lt count 200000)
    where
      by_case : (b : Bool) → LeavesNames (cond b (step_meaning catalog line names s) (Err (TooManyLines line)))
      by_case true = step_named catalog line s (h s refl)
      by_case false = tt

  words_named : (catalog : List CatalogEntry) (count line : ℕ) (words : List (List ℕ)) → LeavesNames (words_meaning catalog count line names words)
  words_named catalog count line [] = before
  words_named catalog count line (word ∷ words) =
      statement_named catalog count line (statement_of word words) (λ s e. objects_spelled word words s (read_is_spelled word words s e))

  line_named : (catalog : List CatalogEntry) (count line : ℕ) (bytes : List ℕ) → LeavesNames (line_meaning catalog count line bytes names)
  unfolding line_meaning
  line_named catalog count line bytes = words_named catalog count line (words_of bytes)

-- ---- lines

led_named : (line count : ℕ) (names : List (List ℕ)) (r : Result LineMeaning ScriptFault) (rest : ℕ → List (List ℕ) → ScriptMeaning) → AreNames names → LeavesNames r → ((c : ℕ) (o : List (List ℕ)) → AreNames o → AreNames (rest c o).names) → AreNames (led_by line count names r rest).names
led_named line count names (Err fault) rest before here later = before
led_named line count names (Ok m) rest before here later = by_target m.target
  where
    by_target : (t : Option Target) → AreNames (with_line line t (rest (count + steps_of m.target) m.names)).names
    by_target None = later (count + steps_of m.target) m.names here
    by_target (Some t) = later (count + steps_of m.target) m.names here

lines_named : (catalog : List CatalogEntry) (count line : ℕ) (names lines : List (List ℕ)) → AreNames names → AreNames (lines_meaning catalog count line names lines).names
lines_named catalog count line names [] before = before
lines_named catalog count line names (bytes ∷ lines) before =
    led_named line count names (line_meaning catalog count line bytes names) (λ c o. lines_meaning catalog c (line + 1) o lines) before (line_named names before catalog count line bytes)
    (λ c o more. lines_named catalog c (line + 1) o lines more)

-- the names after a script
pub script_named : (catalog : List CatalogEntry) (count : ℕ) (bytes : List ℕ) (names : List (List ℕ)) → AreNames names → AreNames (script_meaning catalog count bytes names).names
unfolding script_meaning
script_named catalog count bytes names before = lines_named catalog count 1 names (lines_of bytes) before
