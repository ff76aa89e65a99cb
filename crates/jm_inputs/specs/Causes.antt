-- Why the work of a command ends before its text is written.
use Rattle.std.specs.Prelude.{ℕ, ◌+◌, ◌≡◌, ◌<◌, ◌⊎◌, Bool, false, List, [], ◌∷◌, length, Result, Err, IfSome}
use Rattle.jm_model.specs.Words.{Text}
use Rattle.jm_port.specs.Faults.{HasRisen}
use Rattle.jm_script.specs.declared.script.ScriptLine.{ScriptLine}
use Rattle.jm_sync.specs.declared.line.SyncLine.{SyncLine}
use Rattle.jm_sync.specs.Checks.{IsWrong}
use Rattle.jm_inputs.specs.declared.status.Status.{Status}
use Rattle.jm_inputs.specs.declared.status.Status.TheVariants.{Done, BadSpec, BadScript, ReadFailed, WriteFailed, NoMemory, BadHistory}
use Rattle.jm_inputs.specs.Sources.{FileContents, Source, Named, IsFile, Gives}
use Rattle.jm_inputs.specs.Specifications.{Specification}
use Rattle.jm_inputs.specs.Scripts.{IsScriptFault, IsScriptFileFault}
use Rattle.jm_inputs.specs.Inputs.{IsRefusal, SaySpecifications, AreReadUpTo, step_count, SayScripts, AreScriptsUpTo, asked_by}
use Rattle.jm_cli.specs.Words.{CommandWords}
use Rattle.jm_cli.specs.Words.CommandWords.{Sweep, Audit}
use Rattle.jm_inputs.specs.Commands.{named, files_before, steps_before, most_of_history, IsHistorySound, spec_sources, script_sources, reads_recording, heeds_order, needs_families}
use Rattle.jm_inputs.specs.Recordings.{IsRecordingFault}

-- where it answers that a read failed, a fault was counted meanwhile
abbrev pub CountsFailedReads : {T : Type 0} → Result T Status → ℕ → ℕ → Type 0
CountsFailedReads result before after = (file : ℕ) → result ≡ Err (ReadFailed file) → HasRisen before after

-- a status that comes before anything is written
abbrev pub IsBeforeWriting : Status → Type 0
IsBeforeWriting Done = ⊥
IsBeforeWriting WriteFailed = ⊥
IsBeforeWriting _ = Unit {0}

-- a status that tells a fault of a specification, a script or a history
abbrev pub IsFaulty : Status → Type 0
IsFaulty (BadSpec file fault) = Unit {0}
IsFaulty (BadScript script fault) = Unit {0}
IsFaulty BadHistory = Unit {0}
IsFaulty _ = ⊥

-- the file of this name, which has this number, wasn't loaded: it couldn't be read, memory was short, or it has more
-- than so many bytes, which ends a command with this status
abbrev pub IsNotLoaded : FileContents → Text → ℕ → ℕ → Status → Status → Type 0
IsNotLoaded contents name number most too_long (ReadFailed file) = file ≡ number
IsNotLoaded contents name number most too_long NoMemory = Unit {0}
IsNotLoaded contents name number most too_long status =
    (status ≡ too_long) × IfSome (contents name) (λ held. most < length held)

-- these bytes, which have this number, say no specification after these
abbrev pub IsNoSpecIn : Bool → List Specification → ℕ → Text → Status → Type 0
IsNoSpecIn families before number bytes (BadSpec file fault) = (file ≡ number) × IsRefusal families before bytes fault
IsNoSpecIn families before number bytes NoMemory = Unit {0}
IsNoSpecIn families before number bytes _ = ⊥

-- these bytes, which have this number, say no script after others with so many steps and these names of objects
abbrev pub IsNoScriptIn : List Specification → ℕ → List Text → ℕ → Text → Status → Type 0
IsNoScriptIn specs count names number bytes (BadScript script fault) =
    (script ≡ number) × IsScriptFault specs count names bytes fault
IsNoScriptIn specs count names number bytes NoMemory = Unit {0}
IsNoScriptIn specs count names number bytes _ = ⊥

-- the bytes of a file, which has this number, say no script after others with so many steps and these names of objects
abbrev pub IsNoScriptFileIn : Bool → List Specification → ℕ → List Text → ℕ → Text → Status → Type 0
IsNoScriptFileIn ordered specs count names number bytes (BadScript script fault) =
    (script ≡ number) × IsScriptFileFault ordered specs count names bytes fault
IsNoScriptFileIn ordered specs count names number bytes NoMemory = Unit {0}
IsNoScriptFileIn ordered specs count names number bytes _ = ⊥

-- scripts that ask for this can't be done so: this is wrong, and what comes before it in the order of faults isn't
abbrev pub IsNoOrder : List (List SyncLine) → Status → Type 0
IsNoOrder asked (BadScript script fault) = IsWrong asked script fault
IsNoOrder asked NoMemory = Unit {0}
IsNoOrder asked _ = ⊥

module _ (contents : FileContents) where
  -- this source, which has this number, gives no specification after these; so many files are before all of them
  abbrev pub IsNoSpec : Bool → List Specification → ℕ → ℕ → Source → Status → Type 0
  IsNoSpec families before files number source (BadSpec file fault) =
      (file ≡ number) × ((bytes : Text) × Gives contents source bytes × IsRefusal families before bytes fault)
  IsNoSpec families before files number source (ReadFailed file) = (file ≡ files + number) × IsFile source
  IsNoSpec families before files number source NoMemory = Unit {0}
  IsNoSpec families before files number source _ = ⊥

  -- one of the sources, of which the ones before it say specifications, gives none; so many files are before them
  pub record StopsSpecs (files : ℕ) (families : Bool) (sources : List Source) (status : Status) : Type 0 where
    pub number : ℕ
    pub source : Source
    pub before : List Specification
    pub reached : AreReadUpTo contents families sources number source before
    pub stopped : IsNoSpec families before files number source status

module _ (contents : FileContents) (ordered : Bool) (specs : List Specification) where
  -- this source, which has this number, gives no script after these; so many files are before the scripts
  abbrev pub IsNoScript : ℕ → ℕ → List Text → ℕ → Source → Status → Type 0
  IsNoScript files count names number source (BadScript script fault) =
      (script ≡ number)
      × ((bytes : Text) × Gives contents source bytes × IsScriptFileFault ordered specs count names bytes fault)
  IsNoScript files count names number source (ReadFailed file) = (file ≡ files + number) × IsFile source
  IsNoScript files count names number source NoMemory = Unit {0}
  IsNoScript files count names number source _ = ⊥

  -- one of the sources, of which the ones before it say scripts, after so many steps, gives none
  pub record StopsAtScript (files count : ℕ) (sources : List Source) (status : Status) : Type 0 where
    pub number : ℕ
    pub source : Source
    pub before : List (List ScriptLine)
    pub names : List Text
    pub reached : AreScriptsUpTo contents ordered specs count sources number source before names
    pub stopped : IsNoScript files (count + step_count before) names number source status

  -- the sources say scripts, after so many steps, and what these ask for can't be done
  pub record StopsInOrder (count : ℕ) (sources : List Source) (status : Status) : Type 0 where
    pub scripts : List (List ScriptLine)
    pub objects : List Text
    pub texts : List Text
    pub said : SayScripts contents ordered specs count [] sources scripts objects texts
    pub wrong : IsNoOrder (asked_by ordered texts) status

  -- why scripts aren't read, or aren't to be done
  abbrev pub StopsScripts : ℕ → ℕ → List Source → Status → Type 0
  StopsScripts files count sources status =
      StopsAtScript files count sources status ⊎ StopsInOrder count sources status

-- these bytes are no recording over these specifications
abbrev pub IsNoRecordingIn : List Specification → Text → Status → Type 0
IsNoRecordingIn specs bytes (BadScript part fault) = IsRecordingFault specs bytes part fault
IsNoRecordingIn specs bytes NoMemory = Unit {0}
IsNoRecordingIn specs bytes _ = ⊥

-- the file of this name, which is the second one of its command, is none
abbrev pub IsNoRecording : FileContents → List Specification → Text → Status → Type 0
IsNoRecording contents specs name (BadScript part fault) =
    (bytes : Text) × Gives contents (Named name) bytes × IsRecordingFault specs bytes part fault
IsNoRecording contents specs name (ReadFailed file) = file ≡ 1
IsNoRecording contents specs name NoMemory = Unit {0}
IsNoRecording contents specs name _ = ⊥

-- why specifications from some sources, and scripts from others, aren't read, after so many files and steps
abbrev pub StopsInputs : FileContents → Bool → ℕ → ℕ → List Source → List Source → Status → Type 0
StopsInputs contents ordered files count specs scripts status =
    StopsSpecs contents files false specs status
    ⊎ ((said : List Specification) × SaySpecifications contents false [] specs said
    × StopsScripts contents ordered said (files + length specs) count scripts status)

-- the file of this name, which is the first one of its command, isn't loaded as a history
abbrev pub IsNoHistory : FileContents → Text → Status → Type 0
IsNoHistory contents name BadHistory =
    (bytes : Text) × Gives contents (Named name) bytes × (most_of_history < length bytes)
IsNoHistory contents name (ReadFailed file) = file ≡ 0
IsNoHistory contents name NoMemory = Unit {0}
IsNoHistory contents name _ = ⊥

-- why a command ends before its text is written
pub data StopsCommand (contents : FileContents) (command : CommandWords) : Status → Type 0 where
  short : StopsCommand contents command NoMemory
  at_history : (history : Text) (specs scripts : List Text) (status : Status)
      → command ≡ Audit history specs scripts
      → IsNoHistory contents history status
      → StopsCommand contents command status
  at_spec : (status : Status)
      → IsHistorySound contents command
      → StopsSpecs contents (files_before command) (needs_families command) (spec_sources command) status
      → StopsCommand contents command status
  at_script : (specs : List Specification) (status : Status)
      → IsHistorySound contents command
      → SaySpecifications contents (needs_families command) [] (spec_sources command) specs
      → StopsScripts contents (heeds_order command) specs (files_before command + length (spec_sources command))
      (steps_before command) (script_sources command) status
      → reads_recording command ≡ false
      → StopsCommand contents command status
  at_recording : (spec recording : Text) (specs : List Specification) (status : Status)
      → command ≡ Sweep spec recording
      → SaySpecifications contents false [] (named (spec ∷ [])) specs
      → IsNoRecording contents specs recording status
      → StopsCommand contents command status
