-- Lines in short form: the parameters of an event as a set, and the objects of all lines in one row.
use Rattle.std.specs.Prelude.{◌≡◌, ℕ, ◌+◌, ◌*◌, ◌<◌, ◌≤◌, List, [], ◌∷◌, ◌++◌, map, length, take, drop, Option, None, Some, option_map, Result, Ok, Err, count_ones, slice_index, All}
use Rattle.std.specs.List.{flat_map}
use Rattle.jm_model.specs.declared.fault.ScriptError.{ScriptError}
use Rattle.jm_model.specs.declared.step.Step.{Step}
use Rattle.jm_semantics.specs.Scripts.{projection_of}
use Rattle.jm_script.specs.Events.{spread}
use Rattle.jm_script.specs.Projections.{script_of}
use Rattle.jm_script.specs.Meanings.{most_steps, RisesFrom}
use Rattle.jm_script.specs.declared.block.TheConstants.{MOST_LINES}
use Rattle.jm_script.specs.declared.script.Target.{Target}
use Rattle.jm_script.specs.declared.script.Target.TheVariants as target
use Rattle.jm_script.specs.declared.script.ScriptLine.{ScriptLine}
use Rattle.jm_script.specs.declared.action.Action.{Action}
use Rattle.jm_script.specs.declared.action.Action.TheVariants as action
use Rattle.jm_script.specs.declared.block.Brief.{Brief}
use Rattle.jm_script.specs.declared.block.Brief.TheVariants as brief
use Rattle.jm_script.specs.declared.block.BriefLine.{BriefLine}

-- the target of an event whose parameters have the first of these objects
abbrev pub event_target : ℕ → ℕ → ℕ → List ℕ → Target
event_target spec letter mask objects =
    target.Event spec (record { 0 = letter }) (spread 8 mask (take (count_ones mask) objects))

-- the target of an action, whose objects have these numbers
abbrev pub target_of : List ℕ → Action → Target
target_of numbers (action.Event event) = event_target event.spec event.letter.0 event.mask numbers
target_of numbers (action.Death object) = target.Death object
target_of numbers (action.Pass spec) = target.Pass spec

-- what was read, with the target in the place of the action
abbrev pub targets_of : List ℕ → Result (Option Action) ScriptError → Result (Option Target) ScriptError
targets_of numbers (Ok found) = Ok (option_map (target_of numbers) found)
targets_of numbers (Err error) = Err error

-- the target of a short form, where the objects of all lines are these
abbrev pub target_in : List ℕ → Brief → Target
target_in objects (brief.Event spec letter mask first) = event_target spec letter.0 mask (drop first objects)
target_in objects (brief.Death first) = target.Death (slice_index objects first)
target_in objects (brief.Pass spec) = target.Pass spec

-- the line of a short form
abbrev pub line_in : List ℕ → BriefLine → ScriptLine
line_in objects l = record { line = l.number; target = target_in objects l.brief }

abbrev pub lines_in : List ℕ → List BriefLine → List ScriptLine
lines_in objects lines = map (line_in objects) lines

-- the objects of a short form lie in a row of so many
abbrev pub FitsIn : ℕ → Brief → Type 0
FitsIn size (brief.Event spec letter mask first) = first + count_ones mask ≤ size
FitsIn size (brief.Death first) = first < size
FitsIn size (brief.Pass spec) = Unit {0}

-- each line has its objects, of which there are at most eight a line
pub record IsBlock (lines : List BriefLine) (objects : List ℕ) : Type 0 where
  pub fit : All (λ l. FitsIn (length objects) l.brief) lines
  pub few : length objects ≤ 8 * length lines

-- some objects are put after the others
abbrev pub Grown : List ℕ → List ℕ → Type 0
Grown old new = (more : List ℕ) × (new ≡ old ++ more)

-- the lines of full blocks, one after the other, and of a last one
abbrev pub lines_of : List (List ScriptLine) → List ScriptLine → List ScriptLine
lines_of full last = flat_map (λ lines. lines) full ++ last

-- blocks have as many lines as fit
abbrev pub AreFull : List (List ScriptLine) → Type 0
AreFull blocks = All (λ lines. length lines ≡ MOST_LINES) blocks

-- all blocks but the last are full, and the numbers of all lines rise
pub record IsCompact (full : List (List ScriptLine)) (last : List ScriptLine) : Type 0 where
  pub each : AreFull full
  pub room : length last ≤ MOST_LINES
  pub few : length (lines_of full last) ≤ most_steps
  pub rising : RisesFrom 1 (lines_of full last)

-- a queue's first block has a line at this place
abbrev pub IsBegun : List (List ScriptLine) → ℕ → Type 0
IsBegun [] place = place ≡ 0
IsBegun (first ∷ others) place = place < length first

-- the lines of blocks, one after the other, from a place of the first one on
abbrev pub lines_from : List (List ScriptLine) → ℕ → List ScriptLine
lines_from blocks place = drop place (flat_map (λ lines. lines) blocks)

-- No block of a queue is empty, and the numbers of the lines that are left rise.
pub record IsQueue (blocks : List (List ScriptLine)) (place : ℕ) : Type 0 where
  pub each : All (λ lines. 1 ≤ length lines) blocks
  pub begun : IsBegun blocks place
  pub rising : RisesFrom 1 (lines_from blocks place)

-- a line stands above this one, or wherever it is where there is none
abbrev pub StandsAbove : Option ℕ → ScriptLine → Type 0
StandsAbove None line = Unit {0}
StandsAbove (Some number) line = line.line < number

-- a line doesn't stand above this one
abbrev pub StandsFrom : Option ℕ → ScriptLine → Type 0
StandsFrom None line = ⊥
StandsFrom (Some number) line = number ≤ line.line

-- the steps of blocks that are for a specification, block after block
abbrev pub steps_in : ℕ → List (List ScriptLine) → List (ℕ × Step)
steps_in spec blocks = flat_map (λ lines. projection_of (script_of lines) spec) blocks
