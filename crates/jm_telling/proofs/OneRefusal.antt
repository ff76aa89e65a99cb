-- A command whose job is refused ends with that refusal.
use Rattle.std.proofs.Common.{◌≡◌, ℕ, ◌⊎◌, inl, inr, List, Option}
use Rattle.jm_inputs.specs.declared.status.Status.{Status}
use Rattle.jm_inputs.specs.declared.status.Status.TheVariants.{Done, Usage, BadSpec, BadScript, ReadFailed, WriteFailed, NoMemory, BadHistory}
use Rattle.jm_inputs.specs.Jobs.{Job, Refused, Accepted, AcceptedParts, AcceptedAudit, IsJob, IsCaused, AreTold}
use Rattle.jm_top.specs.Texts.{IsTextOf}
use Rattle.jm_top.specs.Endings.{IsText, Writes}
use Rattle.jm_telling.specs.FirstFaults.{IsSameStatus, IsInterrupted}
use Rattle.jm_telling.proofs.OneJob.{one_job}

module _ (words : List (List ℕ)) (contents : List ℕ → Option (List ℕ)) (told : AreTold words contents) (status : Status) (refused : IsJob words contents (Refused status)) where
  -- there is no text of the command
  no_text_of : (job : Job) (text : List ℕ) → IsJob words contents job → IsTextOf job text → ⊥
  no_text_of (Refused other) text is tells = tells
  no_text_of (Accepted c specs scripts objects asked) text is tells =
      let same : Refused status ≡ Accepted c specs scripts objects asked = one_job words contents (Refused status) (Accepted c specs scripts objects asked) told refused is in
      cc
  no_text_of (AcceptedParts specs parts) text is tells =
      let same : Refused status ≡ AcceptedParts specs parts = one_job words contents (Refused status) (AcceptedParts specs parts) told refused is in
      cc
  no_text_of (AcceptedAudit specs scripts objects bytes) text is tells =
      let same : Refused status ≡ AcceptedAudit specs scripts objects bytes = one_job words contents (Refused status) (AcceptedAudit specs scripts objects bytes) told refused is in
      cc

  no_text : (text : List ℕ) → IsText words contents text → ⊥
  no_text text h = no_text_of h.job text h.is_job h.is_text

  -- a refusal that has a cause is that of the job
  same_refusal : (other : Status) → IsJob words contents (Refused other) → IsSameStatus status other
  same_refusal other is = one_job words contents (Refused status) (Refused other) told refused is

  refused_or_interrupted : (other : Status) (before after : Option (List ℕ)) → Writes words contents other before after → IsCaused words contents other → IsSameStatus status other ⊎ IsInterrupted other
  refused_or_interrupted Done before after wrote caused = absurd (no_text wrote.text wrote.is_text)
  refused_or_interrupted WriteFailed before after wrote caused = absurd (no_text wrote.text wrote.is_text)
  refused_or_interrupted (ReadFailed file) before after wrote caused = inr tt
  refused_or_interrupted NoMemory before after wrote caused = inr tt
  refused_or_interrupted Usage before after wrote caused = inl (same_refusal Usage caused)
  refused_or_interrupted (BadSpec file fault) before after wrote caused = inl (same_refusal (BadSpec file fault) caused)
  refused_or_interrupted (BadScript script fault) before after wrote caused = inl (same_refusal (BadScript script fault) caused)
  refused_or_interrupted BadHistory before after wrote caused = inl (same_refusal BadHistory caused)

pub one_refusal : (words : List (List ℕ)) (contents : List ℕ → Option (List ℕ)) (status other : Status) (before after : Option (List ℕ)) → AreTold words contents → IsJob words contents (Refused status)
    → Writes words contents other before after → IsCaused words contents other → IsSameStatus status other ⊎ IsInterrupted other
one_refusal words contents status other before after told refused wrote caused = refused_or_interrupted words contents told status refused other before after wrote caused
