-- What the lines of a script mean.
use Rattle.std.specs.Prelude.{ℕ, ◌+◌, ◌≤◌, nat_le, nat_lt, List, [], ◌∷◌, length, Option, Some, None, Result, Ok, Err, slice_index, if◌then◌else◌}
use Rattle.jm_model.specs.Words.{Text}
use Rattle.jm_model.specs.declared.fault.ScriptFault.{ScriptFault}
use Rattle.jm_model.specs.declared.fault.ScriptFault.TheVariants.{BadLine, TooManyLines, UnknownSpec, TooManyObjects}
use Rattle.jm_events.specs.Names.{number_of}
use Rattle.jm_lines.specs.Lines.{lines_of, words_of}
use Rattle.jm_script.specs.Statements.{Statement, Event, Death, Pass, statement_of}
use Rattle.jm_script.specs.Objects.{most_objects, mentioned, numbers_of}
use Rattle.jm_script.specs.Catalogs.{CatalogEntry, spec_names}
use Rattle.jm_script.specs.Events.{named_event, spread}
use Rattle.jm_script.specs.declared.event.NamedEvent.{NamedEvent}
use Rattle.jm_script.specs.declared.script.Target.{Target}
use Rattle.jm_script.specs.declared.script.Target.TheVariants as target
use Rattle.jm_script.specs.declared.script.ScriptLine.{ScriptLine}

-- how many steps all scripts have together at most
abbrev pub most_steps : ℕ
most_steps = 200000

-- what a line means: its target, if it is a step, and the names of the objects after it
pub record LineMeaning : Type 0 where
  pub target : Option Target
  pub names : List Text

-- a line that mentions these objects, if there are not too many then, with a target by their numbers
abbrev pub mentioning : ℕ → List Text → List Text → (Text → Target) → Result LineMeaning ScriptFault
mentioning line names objects target_of =
    if nat_le (length (mentioned names objects)) most_objects
    then Ok (record { target = Some (target_of (numbers_of names objects)); names = mentioned names objects })
    else Err (TooManyObjects line)

-- an event line, of the event that it names
abbrev pub event_meaning : ℕ → List Text → List Text → Result NamedEvent ScriptFault
    → Result LineMeaning ScriptFault
event_meaning line names objects (Err fault) = Err fault
event_meaning line names objects (Ok event) =
    mentioning line names objects (λ numbers. target.Event event.spec event.letter (spread 8 event.mask numbers))

-- a pass line, of the specification that it names
abbrev pub pass_meaning : ℕ → List Text → Option ℕ → Result LineMeaning ScriptFault
pass_meaning line names None = Err (UnknownSpec line)
pass_meaning line names (Some spec) = Ok (record { target = Some (target.Pass spec); names = names })

-- a line of one of the three shapes
abbrev pub step_meaning : List CatalogEntry → ℕ → List Text → Statement → Result LineMeaning ScriptFault
step_meaning catalog line names (Event spec event objects) =
    event_meaning line names objects (named_event catalog line spec event (length objects))
step_meaning catalog line names (Death object) =
    mentioning line names (object ∷ []) (λ numbers. target.Death (slice_index numbers 0))
step_meaning catalog line names (Pass spec) = pass_meaning line names (number_of (spec_names catalog) spec)

-- a line with words, after `count` steps of all scripts
abbrev pub statement_meaning : List CatalogEntry → ℕ → ℕ → List Text → Option Statement
    → Result LineMeaning ScriptFault
statement_meaning catalog count line names None = Err (BadLine line)
statement_meaning catalog count line names (Some statement) =
    if nat_lt count most_steps then step_meaning catalog line names statement else Err (TooManyLines line)

-- a line of these words; one without words is no step
abbrev pub words_meaning : List CatalogEntry → ℕ → ℕ → List Text → List Text → Result LineMeaning ScriptFault
words_meaning catalog count line names [] = Ok (record { target = None; names = names })
words_meaning catalog count line names (word ∷ words) =
    statement_meaning catalog count line names (statement_of word words)

-- what a line means, by its bytes and its number, after `count` steps of all scripts; or its first fault
unfoldable pub line_meaning : List CatalogEntry → ℕ → ℕ → Text → List Text → Result LineMeaning ScriptFault
line_meaning catalog count line bytes names = words_meaning catalog count line names (words_of bytes)

-- what a script means: its steps with the numbers of their lines, and the names of the objects after them; where a line
-- has a fault, those before it, and the fault
pub record ScriptMeaning : Type 0 where
  pub lines : List ScriptLine
  pub names : List Text
  pub fault : Option ScriptFault

-- a line in front of others: its step, if it is one, comes first
abbrev pub with_line : ℕ → Option Target → ScriptMeaning → ScriptMeaning
with_line line None m = m
with_line line (Some target) m = record m { lines = record { line = line; target = target } ∷ m.lines }

-- how many steps a line is
abbrev pub steps_of : Option Target → ℕ
steps_of None = 0
steps_of (Some target) = 1

-- a line and what follows it, which is told how many steps and which names there are then; a fault ends the script
abbrev pub led_by : ℕ → ℕ → List Text → Result LineMeaning ScriptFault → (ℕ → List Text → ScriptMeaning)
    → ScriptMeaning
led_by line count names (Err fault) rest = record { lines = []; names = names; fault = Some fault }
led_by line count names (Ok m) rest = with_line line m.target (rest (count + steps_of m.target) m.names)

-- what lines mean, the first of which has this number
abbrev pub lines_meaning : List CatalogEntry → ℕ → ℕ → List Text → List Text → ScriptMeaning
lines_meaning catalog count line names [] = record { lines = []; names = names; fault = None }
lines_meaning catalog count line names (bytes ∷ lines) =
    led_by line count names (line_meaning catalog count line bytes names)
    (λ count_then names_then. lines_meaning catalog count_then (line + 1) names_then lines)

-- what a script means, after `count` steps of the scripts before it; lines are counted from 1
unfoldable pub script_meaning : List CatalogEntry → ℕ → Text → List Text → ScriptMeaning
script_meaning catalog count bytes names = lines_meaning catalog count 1 names (lines_of bytes)

-- the numbers of the lines rise, from this one on
abbrev pub RisesFrom : ℕ → List ScriptLine → Type 0
RisesFrom n [] = Unit {0}
RisesFrom n (l ∷ ls) = (n ≤ l.line) × RisesFrom (l.line + 1) ls
