-- What a file says that is a recording, and what is wrong with one that isn't.
use Rattle.std.specs.Prelude.{ℕ, ◌+◌, ◌≡◌, ◌<◌, ◌≤◌, List, [], ◌∷◌, ◌++◌, length}
use Rattle.jm_model.specs.Words.{Text}
use Rattle.jm_model.specs.declared.fault.ScriptFault.{ScriptFault}
use Rattle.jm_model.specs.declared.fault.ScriptFault.TheVariants.{TooLong}
use Rattle.jm_script.specs.declared.script.ScriptLine.{ScriptLine}
use Rattle.jm_sweep.specs.Recordings.{parts_of}
use Rattle.jm_inputs.specs.Specifications.{Specification, most_bytes}
use Rattle.jm_inputs.specs.Scripts.{IsScript, IsScriptFault}

-- a part of a recording: its steps, and the names of its objects
pub record RecordedPart : Type 0 where
  pub script : List ScriptLine
  pub objects : List Text

-- how many steps parts have
abbrev pub steps_of_parts : List RecordedPart → ℕ
steps_of_parts [] = 0
steps_of_parts (part ∷ parts) = length part.script + steps_of_parts parts

module _ (specs : List Specification) where
  -- the texts say these parts, in order, after so many steps: each is a script by itself, whose lines are counted
  -- from 1 and whose objects are its own
  abbrev pub SayParts : ℕ → List Text → List RecordedPart → Type 0
  SayParts count [] parts = parts ≡ []
  SayParts count (text ∷ texts) parts =
      (part : RecordedPart) × (more : List RecordedPart) × (parts ≡ part ∷ more)
      × IsScript specs count [] text part.script part.objects
      × SayParts (count + length part.script) texts more

  -- the bytes say these parts: no part has a fault
  pub record IsRecording (bytes : Text) (parts : List RecordedPart) : Type 0 where
    pub small : length bytes ≤ most_bytes
    pub said : SayParts 0 (parts_of bytes) parts

  -- The first fault of the bytes: they are too many; or the part of this number has it, counted from 0, and those
  -- before it have none.
  pub data IsRecordingFault (bytes : Text) : ℕ → ScriptFault → Type 0 where
    too_long : most_bytes < length bytes → IsRecordingFault bytes 0 TooLong
    in_part : (number : ℕ) (first rest : List Text) (text : Text) (before : List RecordedPart) (fault : ScriptFault)
        → length bytes ≤ most_bytes
        → parts_of bytes ≡ first ++ text ∷ rest
        → number ≡ length first
        → SayParts 0 first before
        → IsScriptFault specs (steps_of_parts before) [] text fault
        → IsRecordingFault bytes number fault
