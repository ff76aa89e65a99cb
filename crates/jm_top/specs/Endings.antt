-- What a command leaves on its two sinks.
use Rattle.std.specs.Prelude.{ℕ, ◌≡◌, List, Option, ◌⊎◌}
use Rattle.jm_model.specs.Words.{Text}
use Rattle.jm_inputs.specs.Sources.{FileContents}
use Rattle.jm_port.specs.Faults.{HasRisen}
use Rattle.jm_port.specs.Sinks.{appended, AppendsPrefix}
use Rattle.jm_top.specs.FaultTexts.{fault_text_of}
use Rattle.jm_inputs.specs.Jobs.{Job, IsJob, IsCaused}
use Rattle.jm_top.specs.Texts.{IsTextOf}
use Rattle.jm_inputs.specs.declared.status.Status.{Status}
use Rattle.jm_inputs.specs.declared.status.Status.TheVariants.{Done, ReadFailed, WriteFailed, NoMemory}

-- how the writing of a text ends: at `Done` it was appended whole, and where the sink failed or memory was short a
-- prefix of it
abbrev pub WritesText : Status → Option Text → Option Text → Text → Type 0
WritesText Done before after text = after ≡ appended before text
WritesText WriteFailed before after text = AppendsPrefix before after text
WritesText NoMemory before after text = AppendsPrefix before after text
WritesText _ before after text = ⊥

module _ (words : List Text) (contents : FileContents) where
  -- a text of the command: its job isn't refused, and the text is one of the job
  pub record IsText (text : Text) : Type 0 where
    pub job : Job
    pub is_job : IsJob words contents job
    pub is_text : IsTextOf job text

  -- a prefix of a text of the command was appended
  pub record WritesPrefix (before after : Option Text) : Type 0 where
    pub text : Text
    pub is_text : IsText text
    pub part : AppendsPrefix before after text

  -- a text of the command was appended whole
  pub record WritesWhole (before after : Option Text) : Type 0 where
    pub text : Text
    pub is_text : IsText text
    pub whole : after ≡ appended before text

  -- What the sink holds: at `Done` a text of the command was appended whole, where the writing failed a prefix of one.
  -- Where memory was short it was a prefix or nothing, and at every other status nothing.
  abbrev pub Writes : Status → Option Text → Option Text → Type 0
  Writes Done before after = WritesWhole before after
  Writes WriteFailed before after = WritesPrefix before after
  Writes NoMemory before after = (after ≡ before) ⊎ WritesPrefix before after
  Writes _ before after = after ≡ before

  -- The work of the command may end with this status: the status says what was left on the sink and is caused, and a
  -- failed read or a failed write was counted by the folder, or by the sink.
  pub record Ends (faults_before faults_after : ℕ) (before after : ℕ × Option Text) (status : Status) : Type 0 where
    pub written : Writes status before.1 after.1
    pub caused : IsCaused words contents status
    pub read_failed : (file : ℕ) → status ≡ ReadFailed file → HasRisen faults_before faults_after
    pub write_failed : status ≡ WriteFailed → HasRisen before.0 after.0

-- What the error sink holds: nothing at `Done`, and else the text of the status, of which a part may be missing only
-- where a fault of the error sink was counted. Where memory was short it is a prefix of the text of the status that was
-- meant: this one, or the one in whose place it came.
abbrev pub Reports : (Status → Type 0) → Status → (ℕ × Option Text) → (ℕ × Option Text) → Type 0
Reports IsMeant Done before after = after.1 ≡ before.1
Reports IsMeant NoMemory before after =
    (meant : Status) × IsMeant meant × AppendsPrefix before.1 after.1 (fault_text_of meant)
Reports IsMeant status before after = (after.1 ≡ appended before.1 (fault_text_of status))
    ⊎ (HasRisen before.0 after.0 × AppendsPrefix before.1 after.1 (fault_text_of status))
