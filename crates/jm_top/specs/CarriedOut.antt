-- What the work of a command answers.
use Rattle.std.specs.Prelude.{ℕ, ◌≡◌, ◌≤◌, true, false, List, [], ◌∷◌, length, Result, Ok, Err}
use Rattle.std.specs.Global.{Vec}
use Rattle.jm_model.specs.Words.{Text}
use Rattle.jm_script.specs.declared.script.ScriptLine.{ScriptLine}
use Rattle.jm_sync.specs.Checks.{AreSound}
use Rattle.jm_cli.specs.Words.{CommandWords}
use Rattle.jm_cli.specs.Words.CommandWords.{Sweep, Audit}
use Rattle.jm_inputs.specs.declared.status.Status.{Status}
use Rattle.jm_inputs.specs.Sources.{FileContents, Named, Gives}
use Rattle.jm_inputs.specs.Specifications.{Specification}
use Rattle.jm_inputs.specs.Inputs.{SaySpecifications, SayScripts, asked_by}
use Rattle.jm_inputs.specs.Commands.{named, most_of_history, spec_sources, script_sources, reads_recording, is_audit, needs_families}
use Rattle.jm_inputs.specs.Recordings.{RecordedPart, IsRecording}
use Rattle.jm_inputs.specs.Jobs.{Accepted, AcceptedParts, AcceptedAudit}
use Rattle.jm_inputs.specs.Causes.{StopsCommand}
use Rattle.jm_top.specs.Texts.{IsTextOf}

-- the text is one of the command, whose specifications and scripts were read, and these can be done in the order that
-- they ask for
pub record IsTextOfScripts (contents : FileContents) (command : CommandWords) (text : Text) : Type 0 where
  pub specs : List Specification
  pub scripts : List (List ScriptLine)
  pub objects : List Text
  pub texts : List Text
  pub said : SaySpecifications contents (needs_families command) [] (spec_sources command) specs
  pub told : SayScripts contents true specs 0 [] (script_sources command) scripts objects texts
  pub sound : AreSound (asked_by true texts)
  pub separate : reads_recording command ≡ false
  pub plain : is_audit command ≡ false
  pub is_text : IsTextOf (Accepted command specs scripts objects (asked_by true texts)) text

-- the text is one of the command, whose specification and recording were read
pub record IsTextOfRecording (contents : FileContents) (command : CommandWords) (text : Text) : Type 0 where
  pub spec : Text
  pub recording : Text
  pub specs : List Specification
  pub bytes : Text
  pub parts : List RecordedPart
  pub is : command ≡ Sweep spec recording
  pub said : SaySpecifications contents false [] (named (spec ∷ [])) specs
  pub given : Gives contents (Named recording) bytes
  pub told : IsRecording specs bytes parts
  pub is_text : IsTextOf (AcceptedParts specs parts) text

-- the text is one of the command, whose history, specifications and scripts were read
pub record IsTextOfAudit (contents : FileContents) (command : CommandWords) (text : Text) : Type 0 where
  pub history : Text
  pub names : List Text
  pub files : List Text
  pub bytes : Text
  pub specs : List Specification
  pub scripts : List (List ScriptLine)
  pub objects : List Text
  pub texts : List Text
  pub is : command ≡ Audit history names files
  pub given : Gives contents (Named history) bytes
  pub small : length bytes ≤ most_of_history
  pub said : SaySpecifications contents false [] (named names) specs
  pub told : SayScripts contents false specs 198000 [] (named files) scripts objects texts
  pub is_text : IsTextOf (AcceptedAudit specs scripts objects bytes) text

-- the text is one of the command, whose files were read
pub data IsTextOfCommand (contents : FileContents) (command : CommandWords) (text : Text) : Type 0 where
  of_scripts : IsTextOfScripts contents command text → IsTextOfCommand contents command text
  of_recording : IsTextOfRecording contents command text → IsTextOfCommand contents command text
  of_audit : IsTextOfAudit contents command text → IsTextOfCommand contents command text

-- it answers a text of the command, or why the command ends before its text is written
abbrev pub IsCarriedOut : FileContents → CommandWords → Result (Vec ℕ) Status → Type 0
IsCarriedOut contents command (Ok text) = IsTextOfCommand contents command text.items
IsCarriedOut contents command (Err status) = StopsCommand contents command status
