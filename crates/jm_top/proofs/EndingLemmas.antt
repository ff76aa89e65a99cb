use Rattle.std.proofs.Common.{◌≡◌, ℕ, List, [], ◌⊎◌, inl, inr, refl, sym, subst, ◌∙◌, ap, append-nil}
use Rattle.std.specs.Prelude.{Option, Some, None}
use Rattle.jm_port.specs.Faults.{HasRisen}
use Rattle.jm_port.specs.Sinks.{appended, AppendsPrefix}
use Rattle.jm_inputs.specs.Causes.{IsBeforeWriting}
use Rattle.jm_inputs.specs.Jobs.{IsCaused}
use Rattle.jm_top.specs.Endings.{WritesText, IsText, Writes, Ends, Reports}
use Rattle.jm_inputs.specs.declared.status.Status.{Status}
use Rattle.jm_inputs.specs.declared.status.Status.TheVariants.{Done, Usage, BadSpec, BadScript, ReadFailed, WriteFailed, NoMemory, BadHistory}

appended-nil : (written : Option (List ℕ)) → appended written [] ≡ written
appended-nil None = refl
appended-nil (Some text) = ap (λ t. Some t) (append-nil text)

-- a sink that is as before
pub nothing_appended : (before after : Option (List ℕ)) (text : List ℕ) → after ≡ before → AppendsPrefix before after text
nothing_appended before after text same = record { piece = []; is_prefix = (text, refl); written = same ∙ sym (appended-nil before) }

module _ (words : List (List ℕ)) (contents : List ℕ → Option (List ℕ)) where
  -- a text of the command was given to the sink
  pub writes_text : (status : Status) (before after : Option (List ℕ)) (text : List ℕ) → IsText words contents text → WritesText status before after text → Writes words contents status before after
  writes_text Done before after text is w = record { text = text; is_text = is; whole = w }
  writes_text WriteFailed before after text is w = record { text = text; is_text = is; part = w }
  writes_text NoMemory before after text is w = inr (record { text = text; is_text = is; part = w })
  writes_text Usage before after text is w = absurd w
  writes_text (BadSpec f x) before after text is w = absurd w
  writes_text (BadScript f x) before after text is w = absurd w
  writes_text (ReadFailed f) before after text is w = absurd w
  writes_text BadHistory before after text is w = absurd w

  -- nothing was given to it
  pub writes_nothing : (status : Status) (before : Option (List ℕ)) → IsBeforeWriting status → Writes words contents status before before
  writes_nothing Done before h = absurd h
  writes_nothing WriteFailed before h = absurd h
  writes_nothing NoMemory before h = inl refl
  writes_nothing Usage before h = refl
  writes_nothing (BadSpec f x) before h = refl
  writes_nothing (BadScript f x) before h = refl
  writes_nothing (ReadFailed f) before h = refl
  writes_nothing BadHistory before h = refl

  -- the work ended before anything was written
  pub ends_before : (status : Status) → IsBeforeWriting status → IsCaused words contents status → (faults later : ℕ) (sink : ℕ × Option (List ℕ)) → ((file : ℕ) → status ≡ ReadFailed file → HasRisen faults later) → Ends words contents faults later sink sink status
  ends_before status before caused faults later sink read_failed = record {
    written = writes_nothing status sink.1 before;
    caused = caused;
    read_failed = read_failed;
    write_failed = λ is. absurd (subst IsBeforeWriting is before);
  }

  -- a status of the writing has its cause, and is no failed read
  pub writing_caused : (status : Status) (before after : Option (List ℕ)) (text : List ℕ) → WritesText status before after text → IsCaused words contents status
  writing_caused Done before after text w = tt
  writing_caused WriteFailed before after text w = tt
  writing_caused NoMemory before after text w = tt
  writing_caused Usage before after text w = absurd w
  writing_caused (BadSpec f x) before after text w = absurd w
  writing_caused (BadScript f x) before after text w = absurd w
  writing_caused (ReadFailed f) before after text w = absurd w
  writing_caused BadHistory before after text w = absurd w

pub writing_reads_none : (status : Status) (before after : Option (List ℕ)) (text : List ℕ) → WritesText status before after text → (file : ℕ) → status ≡ ReadFailed file → ⊥
writing_reads_none status before after text w file is = subst (λ s. WritesText s before after text) is w

-- words that spell no command end the work before anything is written, with no file read
pub unread_before : (P : Type 0) (status : Status) → ((status ≡ Usage) × P) ⊎ (status ≡ NoMemory) → IsBeforeWriting status
unread_before P status (inl is) = subst IsBeforeWriting (sym is.0) tt
unread_before P status (inr is) = subst IsBeforeWriting (sym is) tt

pub unread_none : (P : Type 0) (status : Status) → ((status ≡ Usage) × P) ⊎ (status ≡ NoMemory) → (file : ℕ) → status ≡ ReadFailed file → ⊥
unread_none P status (inl is) file at = let apart : Usage ≡ ReadFailed file = sym is.0 ∙ at in absurd cc
unread_none P status (inr is) file at = let apart : NoMemory ≡ ReadFailed file = sym is ∙ at in absurd cc

-- what is said of the status that was meant
pub reports_weaker : (P Q : Status → Type 0) (status : Status) (before after : ℕ × Option (List ℕ)) → ((meant : Status) → P meant → Q meant) → Reports P status before after → Reports Q status before after
reports_weaker P Q Done before after weaker h = h
reports_weaker P Q NoMemory before after weaker h = (h.0, weaker h.0 h.1, h.2)
reports_weaker P Q Usage before after weaker h = h
reports_weaker P Q (BadSpec f x) before after weaker h = h
reports_weaker P Q (BadScript f x) before after weaker h = h
reports_weaker P Q (ReadFailed f) before after weaker h = h
reports_weaker P Q WriteFailed before after weaker h = h
reports_weaker P Q BadHistory before after weaker h = h

-- where a status was meant with which the work may have ended
module _ {words : List (List ℕ)} {contents : List ℕ → Option (List ℕ)} {faults later : ℕ} {sink after : ℕ × Option (List ℕ)} {status : Status} where
  pub reports_ending : (result : Status) (before reported : ℕ × Option (List ℕ)) → Ends words contents faults later sink after status → Reports (λ meant. meant ≡ status) result before reported → Reports (Ends words contents faults later sink after) result before reported
  reports_ending result before reported ends h =
      reports_weaker (λ meant. meant ≡ status) (Ends words contents faults later sink after) result before reported (λ meant is. subst (Ends words contents faults later sink after) (sym is) ends) h
