-- What a command is to do, by its words and the contents of its files.
use Rattle.std.specs.Prelude.{ℕ, ◌+◌, ◌≡◌, ◌<◌, ◌≤◌, true, false, List, [], ◌∷◌, length, Some, None}
use Rattle.jm_model.specs.Words.{Text}
use Rattle.jm_model.specs.declared.fault.SpecFault.{SpecFault}
use Rattle.jm_model.specs.declared.fault.ScriptFault.{ScriptFault}
use Rattle.jm_script.specs.declared.script.ScriptLine.{ScriptLine}
use Rattle.jm_sync.specs.declared.line.SyncLine.{SyncLine}
use Rattle.jm_sync.specs.Checks.{AreSound, IsWrong}
use Rattle.jm_cli.specs.Words.{CommandWords, command_of}
use Rattle.jm_cli.specs.Words.CommandWords.{Sweep, Audit}
use Rattle.jm_inputs.specs.declared.status.Status.{Status}
use Rattle.jm_inputs.specs.declared.status.Status.TheVariants.{Usage, BadSpec, BadScript, ReadFailed, BadHistory}
use Rattle.jm_inputs.specs.Sources.{FileContents, Source, Named, IsFile, Gives, AllTold}
use Rattle.jm_inputs.specs.Commands.{named, history_sources, files_before, steps_before, most_of_history, IsHistorySound, spec_sources, script_sources, reads_recording, is_audit, heeds_order, needs_families}
use Rattle.jm_inputs.specs.Specifications.{Specification}
use Rattle.jm_inputs.specs.Scripts.{IsScriptFileFault}
use Rattle.jm_inputs.specs.Recordings.{RecordedPart, IsRecording, IsRecordingFault}
use Rattle.jm_inputs.specs.Inputs.{IsRefusal, SaySpecifications, AreReadUpTo, step_count, SayScripts, AreScriptsUpTo, asked_by}

-- either the command is refused, or it is done over these specifications and scripts, by these names of objects and in
-- an order that the scripts ask for; or over these specifications and the parts of a recording; or a history is audited
-- over specifications and scripts
pub data Job : Type 0 where
  Refused : (status : Status) → Job
  Accepted : (command : CommandWords) (specs : List Specification) (scripts : List (List ScriptLine))
      (objects : List Text) (asked : List (List SyncLine)) → Job
  AcceptedParts : (specs : List Specification) (parts : List RecordedPart) → Job
  AcceptedAudit : (specs : List Specification) (scripts : List (List ScriptLine)) (objects : List Text)
      (history : Text) → Job

-- the job has no fault
abbrev pub IsSound : Job → Type 0
IsSound (Refused status) = ⊥
IsSound _ = Unit {0}

module _ (words : List Text) (contents : FileContents) where
  -- The job: the first fault in the order of the work, which is the words, the history, each specification in order,
  -- each script in order and then what they ask for, or each part of the recording in order; or, where there is none,
  -- what was read.
  pub data IsJob : Job → Type 0 where
    no_command : command_of words ≡ None → IsJob (Refused Usage)
    bad_history : (history : Text) (names files : List Text) (bytes : Text)
        → command_of words ≡ Some (Audit history names files)
        → Gives contents (Named history) bytes
        → most_of_history < length bytes
        → IsJob (Refused BadHistory)
    bad_spec : (command : CommandWords) (number : ℕ) (source : Source) (before : List Specification) (bytes : Text)
        (fault : SpecFault)
        → command_of words ≡ Some command
        → IsHistorySound contents command
        → AreReadUpTo contents (needs_families command) (spec_sources command) number source before
        → Gives contents source bytes
        → IsRefusal (needs_families command) before bytes fault
        → IsJob (Refused (BadSpec number fault))
    bad_script : (command : CommandWords) (specs : List Specification) (number : ℕ) (source : Source)
        (before : List (List ScriptLine)) (names : List Text) (bytes : Text) (fault : ScriptFault)
        → command_of words ≡ Some command
        → IsHistorySound contents command
        → SaySpecifications contents (needs_families command) [] (spec_sources command) specs
        → AreScriptsUpTo contents (heeds_order command) specs (steps_before command) (script_sources command) number
        source before names
        → Gives contents source bytes
        → IsScriptFileFault (heeds_order command) specs (steps_before command + step_count before) names bytes fault
        → reads_recording command ≡ false
        → IsJob (Refused (BadScript number fault))
    bad_order : (command : CommandWords) (specs : List Specification) (scripts : List (List ScriptLine))
        (objects texts : List Text) (number : ℕ) (fault : ScriptFault)
        → command_of words ≡ Some command
        → SaySpecifications contents (needs_families command) [] (spec_sources command) specs
        → SayScripts contents true specs 0 [] (script_sources command) scripts objects texts
        → IsWrong (asked_by true texts) number fault
        → reads_recording command ≡ false
        → is_audit command ≡ false
        → IsJob (Refused (BadScript number fault))
    accepted : (command : CommandWords) (specs : List Specification) (scripts : List (List ScriptLine))
        (objects texts : List Text)
        → command_of words ≡ Some command
        → SaySpecifications contents (needs_families command) [] (spec_sources command) specs
        → SayScripts contents true specs 0 [] (script_sources command) scripts objects texts
        → AreSound (asked_by true texts)
        → reads_recording command ≡ false
        → is_audit command ≡ false
        → IsJob (Accepted command specs scripts objects (asked_by true texts))
    bad_part : (spec recording : Text) (specs : List Specification) (bytes : Text) (number : ℕ) (fault : ScriptFault)
        → command_of words ≡ Some (Sweep spec recording)
        → SaySpecifications contents false [] (named (spec ∷ [])) specs
        → Gives contents (Named recording) bytes
        → IsRecordingFault specs bytes number fault
        → IsJob (Refused (BadScript number fault))
    accepted_parts : (spec recording : Text) (specs : List Specification) (bytes : Text) (parts : List RecordedPart)
        → command_of words ≡ Some (Sweep spec recording)
        → SaySpecifications contents false [] (named (spec ∷ [])) specs
        → Gives contents (Named recording) bytes
        → IsRecording specs bytes parts
        → IsJob (AcceptedParts specs parts)
    accepted_audit : (history : Text) (names files : List Text) (bytes : Text) (specs : List Specification)
        (scripts : List (List ScriptLine)) (objects texts : List Text)
        → command_of words ≡ Some (Audit history names files)
        → Gives contents (Named history) bytes
        → length bytes ≤ most_of_history
        → SaySpecifications contents false [] (named names) specs
        → SayScripts contents false specs 198000 [] (named files) scripts objects texts
        → IsJob (AcceptedAudit specs scripts objects bytes)

  -- nothing has a fault that comes before the file of this number is loaded: files are counted in the order of the
  -- words
  pub data ReachesFile : ℕ → Type 0 where
    history_file : (history : Text) (names files : List Text)
        → command_of words ≡ Some (Audit history names files)
        → ReachesFile 0
    spec_file : (command : CommandWords) (number : ℕ) (file : Source) (before : List Specification)
        → command_of words ≡ Some command
        → IsHistorySound contents command
        → AreReadUpTo contents (needs_families command) (spec_sources command) number file before
        → IsFile file
        → ReachesFile (files_before command + number)
    script_file : (command : CommandWords) (specs : List Specification) (number : ℕ) (file : Source)
        (before : List (List ScriptLine)) (names : List Text)
        → command_of words ≡ Some command
        → IsHistorySound contents command
        → SaySpecifications contents (needs_families command) [] (spec_sources command) specs
        → AreScriptsUpTo contents (heeds_order command) specs (steps_before command) (script_sources command) number
        file before names
        → IsFile file
        → ReachesFile ((files_before command + length (spec_sources command)) + number)

  -- a command that was refused is one that its job refuses so
  abbrev pub IsCaused : Status → Type 0
  IsCaused Usage = IsJob (Refused Usage)
  IsCaused (BadSpec file fault) = IsJob (Refused (BadSpec file fault))
  IsCaused (BadScript script fault) = IsJob (Refused (BadScript script fault))
  IsCaused (ReadFailed file) = ReachesFile file
  IsCaused BadHistory = IsJob (Refused BadHistory)
  IsCaused _ = Unit {0}

  -- it is told what the files of the command hold
  abbrev pub AreTold : Type 0
  AreTold = (command : CommandWords) → command_of words ≡ Some command → AllTold contents (spec_sources command)
      × AllTold contents (script_sources command) × AllTold contents (history_sources command)
