-- What a reader answers and leaves after.
use Rattle.std.specs.Prelude.{ℕ, ◌≡◌, ◌+◌, List, length, Option, Some, None, Result, Ok, Err}
use Rattle.jm_model.specs.Words.{Text}
use Rattle.jm_model.specs.declared.fault.ScriptFault.{ScriptFault}
use Rattle.jm_model.specs.declared.fault.ScriptError.{ScriptError}
use Rattle.jm_model.specs.declared.fault.ScriptError.TheVariants.{Bad, NoMemory}
use Rattle.jm_script.specs.Objects.{IsExtension}
use Rattle.jm_script.specs.Meanings.{LineMeaning, ScriptMeaning}
use Rattle.jm_script.specs.declared.script.Target.{Target}
use Rattle.jm_script.specs.declared.script.ScriptLine.{ScriptLine}

-- why a line wasn't read: its fault, and the names stay as they were; where memory is short, there may be new names at
-- the end
abbrev pub IsStoppedBy : Result LineMeaning ScriptFault → List Text → ScriptError → List Text → Type 0
IsStoppedBy meaning old (Bad fault) new = (meaning ≡ Err fault) × (new ≡ old)
IsStoppedBy meaning old NoMemory new = IsExtension old new

-- a line is read by its meaning: its target, and the names then
abbrev pub IsReadAs : Result LineMeaning ScriptFault → List Text → Result (Option Target) ScriptError
    → List Text → Type 0
IsReadAs meaning old (Ok target) new = meaning ≡ Ok (record { target = target; names = new })
IsReadAs meaning old (Err error) new = IsStoppedBy meaning old error new

-- a script is read by its meaning: no line has a fault, these are its steps, the names and how many steps there are
-- then
pub record IsReadWhole (meaning : ScriptMeaning) (count : ℕ) (script : List ScriptLine) (names : List Text)
    (count_then : ℕ) : Type 0 where
  pub sound : meaning.fault ≡ None
  pub lines : script ≡ meaning.lines
  pub named : names ≡ meaning.names
  pub counted : count_then ≡ count + length script

-- this is the first fault of the script's first line that has one, and what the lines before it left
pub record IsRefused (meaning : ScriptMeaning) (count : ℕ) (fault : ScriptFault) (names : List Text)
    (count_then : ℕ) : Type 0 where
  pub first : meaning.fault ≡ Some fault
  pub named : names ≡ meaning.names
  pub counted : count_then ≡ count + length meaning.lines

-- memory was short: the count is as before, and there may be new names at the end
pub record IsAbandoned (count : ℕ) (old new : List Text) (count_then : ℕ) : Type 0 where
  pub extended : IsExtension old new
  pub counted : count_then ≡ count

-- why a script wasn't read, and what is left
abbrev pub IsLeft : ScriptMeaning → ℕ → List Text → ScriptError → List Text → ℕ → Type 0
IsLeft meaning count old (Bad fault) new count_then = IsRefused meaning count fault new count_then
IsLeft meaning count old NoMemory new count_then = IsAbandoned count old new count_then

-- how many steps count after an error: a fault leaves those of the lines before it
abbrev pub count_left : ScriptError → ℕ → ℕ → ℕ
count_left (Bad fault) steps before = steps
count_left NoMemory steps before = before
