-- What the status of a command says of its job.
use Rattle.std.proofs.Common.{◌≡◌, ℕ, zero, suc, ◌+◌, ◌<◌, ◌≤◌, ◌⊎◌, inl, inr, Bool, true, false, List, [], ◌∷◌, length, Option, Some, None, Result, Ok, Err, IfErr, refl, sym, ap, subst, ◌∙◌, arith}
use Rattle.std.specs.Prelude.{IfSome, not}
use Rattle.jm_port.specs.Faults.{HasRisen}
use Rattle.jm_model.specs.declared.fault.SpecFault.TheVariants as spec
use Rattle.jm_model.specs.declared.fault.ScriptFault.{ScriptFault}
use Rattle.jm_model.specs.declared.fault.ScriptFault.TheVariants as script
use Rattle.jm_script.specs.declared.script.ScriptLine.{ScriptLine}
use Rattle.std.proofs.lemmas.Bool.{false≢true}
use Rattle.jm_cli.specs.Words.{CommandWords, command_of}
use Rattle.jm_cli.specs.Words.CommandWords.{Replay, Run, Check, Coenable, Gen, Sweep, Audit}
use Rattle.jm_inputs.specs.declared.status.Status.{Status}
use Rattle.jm_inputs.specs.declared.status.Status.TheVariants.{Done, Usage, BadSpec, BadScript, ReadFailed, WriteFailed, NoMemory, BadHistory}
use Rattle.jm_inputs.specs.Sources.{Source, Named, Gives}
use Rattle.jm_inputs.specs.Commands.{named, files_before, steps_before, most_of_history, IsHistorySound, spec_sources, script_sources, reads_recording, is_audit, heeds_order, needs_families}
use Rattle.jm_inputs.specs.Specifications.{Specification, too_long as spec_too_long, most_bytes}
use Rattle.jm_inputs.specs.Scripts.{IsScriptFileFault, file_too_long}
use Rattle.jm_inputs.specs.Inputs.{IsRefusal, faulty, SaySpecifications, AreReadUpTo, step_count, SayScripts, AreScriptsUpTo, asked_by}
use Rattle.jm_inputs.specs.Recordings.{RecordedPart, IsRecordingFault}
use Rattle.jm_inputs.specs.Jobs.{Job, Refused, Accepted, AcceptedParts, AcceptedAudit, IsSound, IsJob, no_command, bad_history, bad_spec, bad_script, bad_order, accepted, bad_part, accepted_parts, accepted_audit, ReachesFile, history_file, spec_file, script_file, IsCaused, AreTold}
use Rattle.jm_inputs.specs.Causes.{IsBeforeWriting, IsFaulty, IsNotLoaded, IsNoSpec, IsNoSpecIn, StopsSpecs, IsNoOrder, IsNoScript, IsNoScriptFileIn, StopsInOrder, StopsScripts, IsNoRecording, IsNoHistory, StopsCommand, short, at_history, at_spec, at_script, at_recording}
use Rattle.jm_inputs.proofs.OneReadingLemmas.{same_some, same_err, never_some}
use Rattle.jm_inputs.proofs.InputLemmas.{one_given, say_one, specs_not_refused, scripts_not_refused, texts_one}
use Rattle.jm_inputs.proofs.RecordingLemmas.{recording_has_no_fault}
use Rattle.jm_inputs.proofs.OrderLemmas.{sound_not_wrong, unasked_not_wrong}
use Rattle.jm_sync.specs.declared.line.SyncLine.{SyncLine}
use Rattle.jm_sync.specs.Checks.{IsWrong}

-- a command that audits no history heeds what its scripts ask for, and counts no steps before them
heeds : (c : CommandWords) → is_audit c ≡ false → heeds_order c ≡ true
heeds c plain = ap not plain

no_audit_steps : (c : CommandWords) → is_audit c ≡ false → steps_before c ≡ 0
no_audit_steps (Audit history names files) apart = absurd (false≢true (sym apart))
no_audit_steps (Replay spec script) apart = refl
no_audit_steps (Run specs scripts) apart = refl
no_audit_steps (Check specs) apart = refl
no_audit_steps (Coenable specs) apart = refl
no_audit_steps (Gen n) apart = refl
no_audit_steps (Sweep spec recording) apart = refl

module _ (words : List (List ℕ)) (contents : List ℕ → Option (List ℕ)) (told : AreTold words contents) where
  same_command : (c d : CommandWords) → command_of words ≡ Some c → command_of words ≡ Some d → d ≡ c
  same_command c d a b = same_some (sym b ∙ a)

  -- a command that reads a recording reads no scripts
  never_both : (c : CommandWords) (spec recording : List ℕ) → Sweep spec recording ≡ c → reads_recording c ≡ false → ⊥
  never_both c spec recording same separate = false≢true (sym separate ∙ ap reads_recording (sym same))

  -- nor does one that audits a history
  never_audit : (c : CommandWords) (history : List ℕ) (names files : List (List ℕ)) → Audit history names files ≡ c → is_audit c ≡ false → ⊥
  never_audit c history names files same apart = false≢true (sym apart ∙ ap is_audit (sym same))

  -- a job that isn't refused is refused for nothing
  accepted_not_refused : (status : Status) (c : CommandWords) (specs : List Specification) (scripts : List (List ScriptLine)) (objects : List (List ℕ)) (asked : List (List SyncLine)) → IsJob words contents (Accepted c specs scripts objects asked) → IsJob words contents (Refused status) → ⊥
  accepted_not_refused status _ _ _ _ _ (accepted c specs scripts objects texts spelled said tells sound separate plain) (no_command none) = never_some (sym none ∙ spelled)
  accepted_not_refused _ _ _ _ _ _ (accepted c specs scripts objects texts spelled said tells sound separate plain) (bad_history history names files bytes spells given long) =
      never_audit c history names files (same_command c (Audit history names files) spelled spells) plain
  accepted_not_refused _ _ _ _ _ _ (accepted c specs scripts objects texts spelled said tells sound separate plain) (bad_spec d number source before bytes fault names fit reached given is) =
      let same = same_command c d spelled names in
      let all = told c spelled in
      specs_not_refused contents (needs_families c) (spec_sources c) number source specs before bytes fault all.0 said
      (subst (λ (x : CommandWords). AreReadUpTo contents (needs_families x) (spec_sources x) number source before) same reached) given (subst (λ (x : CommandWords). IsRefusal (needs_families x) before bytes fault) same is)
  accepted_not_refused _ _ _ _ _ _ (accepted c specs scripts objects texts spelled said tells sound separate plain) (bad_script d others number source before names bytes fault spells fit says reached given is apart) =
      let same = same_command c d spelled spells in
      let all = told c spelled in
      let none : steps_before c ≡ 0 = no_audit_steps c plain in
      let heard : heeds_order c ≡ true = heeds c plain in
      let one = say_one contents (needs_families c) [] (spec_sources c) others specs all.0 (subst (λ (x : CommandWords). SaySpecifications contents (needs_families x) [] (spec_sources x) others) same says) said in
      scripts_not_refused contents true specs 0 (script_sources c) number source scripts before objects texts names bytes fault all.1 tells
      (subst (λ v. AreScriptsUpTo contents true v 0 (script_sources c) number source before names) one
      (subst (λ b. AreScriptsUpTo contents b others 0 (script_sources c) number source before names) heard
      (subst (λ n. AreScriptsUpTo contents (heeds_order c) others n (script_sources c) number source before names) none
      (subst (λ (x : CommandWords). AreScriptsUpTo contents (heeds_order x) others (steps_before x) (script_sources x) number source before names) same reached)))) given
      (subst (λ v. IsScriptFileFault true v (0 + step_count before) names bytes fault) one
      (subst (λ b. IsScriptFileFault b others (0 + step_count before) names bytes fault) heard
      (subst (λ n. IsScriptFileFault (heeds_order c) others (n + step_count before) names bytes fault) none
      (subst (λ (x : CommandWords). IsScriptFileFault (heeds_order x) others (steps_before x + step_count before) names bytes fault) same is))))
  accepted_not_refused _ _ _ _ _ _ (accepted c specs scripts objects texts spelled said tells sound separate plain) (bad_order d others some names held number fault spells says reads is apart alone) =
      let same = same_command c d spelled spells in
      let all = told c spelled in
      let one = texts_one contents true others specs 0 0 [] [] (script_sources c) some scripts names held objects texts all.1 (subst (λ (x : CommandWords). SayScripts contents true others 0 [] (script_sources x) some names held) same reads) tells in
      sound_not_wrong (asked_by true texts) number fault sound (subst (λ v. IsWrong (asked_by true v) number fault) one is)
  accepted_not_refused _ _ _ _ _ _ (accepted c specs scripts objects texts spelled said tells sound separate plain) (bad_part spec recording others bytes number fault spells says given is) =
      never_both c spec recording (same_command c (Sweep spec recording) spelled spells) separate

  -- nor one over the parts of a recording
  parts_not_refused : (status : Status) (specs : List Specification) (parts : List RecordedPart) → IsJob words contents (AcceptedParts specs parts) → IsJob words contents (Refused status) → ⊥
  parts_not_refused status _ _ (accepted_parts spec recording specs bytes parts spelled said given tells) (no_command none) = never_some (sym none ∙ spelled)
  parts_not_refused _ _ _ (accepted_parts spec recording specs bytes parts spelled said given tells) (bad_spec d number source before held fault names sound reached gives is) =
      let same = same_command (Sweep spec recording) d spelled names in
      let all = told (Sweep spec recording) spelled in
      specs_not_refused contents false (named (spec ∷ [])) number source specs before held fault all.0 said
      (subst (λ (x : CommandWords). AreReadUpTo contents (needs_families x) (spec_sources x) number source before) same reached) gives (subst (λ (x : CommandWords). IsRefusal (needs_families x) before held fault) same is)
  parts_not_refused _ _ _ (accepted_parts spec recording specs bytes parts spelled said given tells) (bad_history history names files held spells gives long) =
      never_audit (Sweep spec recording) history names files (same_command (Sweep spec recording) (Audit history names files) spelled spells) refl
  parts_not_refused _ _ _ (accepted_parts spec recording specs bytes parts spelled said given tells) (bad_script d others number source before names held fault spells sound says reached gives is apart) =
      never_both d spec recording (same_command d (Sweep spec recording) spells spelled) apart
  parts_not_refused _ _ _ (accepted_parts spec recording specs bytes parts spelled said given tells) (bad_order d others some names held number fault spells says reads is apart alone) =
      never_both d spec recording (same_command d (Sweep spec recording) spells spelled) apart
  parts_not_refused _ _ _ (accepted_parts spec recording specs bytes parts spelled said given tells) (bad_part again from others held number fault spells says gives is) =
      let same = same_command (Sweep spec recording) (Sweep again from) spelled spells in
      let all = told (Sweep spec recording) spelled in
      let one_spec : again ≡ spec = cc same in
      let one_recording : from ≡ recording = cc same in
      let one = say_one contents false [] (named (spec ∷ [])) others specs all.0 (subst (λ v. SaySpecifications contents false [] (named (v ∷ [])) others) one_spec says) said in
      let same_bytes = one_given contents (Named recording) held bytes all.1.0 (subst (λ v. Gives contents (Named v) held) one_recording gives) given in
      recording_has_no_fault specs bytes parts number fault tells (subst (λ v. IsRecordingFault specs v number fault) same_bytes (subst (λ v. IsRecordingFault v held number fault) one is))

  -- nor one that audits a history
  audit_not_refused : (status : Status) (specs : List Specification) (scripts : List (List ScriptLine)) (objects : List (List ℕ)) (bytes : List ℕ) → IsJob words contents (AcceptedAudit specs scripts objects bytes) → IsJob words contents (Refused status) → ⊥
  audit_not_refused status _ _ _ _ (accepted_audit history names files bytes specs scripts objects texts spelled given small said tells) (no_command none) = never_some (sym none ∙ spelled)
  audit_not_refused _ _ _ _ _ (accepted_audit history names files bytes specs scripts objects texts spelled given small said tells) (bad_history again specs_again scripts_again held spells gives long) =
      let same = same_command (Audit history names files) (Audit again specs_again scripts_again) spelled spells in
      let one_history : again ≡ history = cc same in
      let all = told (Audit history names files) spelled in
      let same_bytes = one_given contents (Named history) held bytes all.2.0 (subst (λ v. Gives contents (Named v) held) one_history gives) given in
      omega (arith, small, long, ap (λ v. length v) same_bytes)
  audit_not_refused _ _ _ _ _ (accepted_audit history names files bytes specs scripts objects texts spelled given small said tells) (bad_spec d number source before held fault spells sound reached gives is) =
      let same = same_command (Audit history names files) d spelled spells in
      let all = told (Audit history names files) spelled in
      specs_not_refused contents false (named names) number source specs before held fault all.0 said
      (subst (λ (x : CommandWords). AreReadUpTo contents (needs_families x) (spec_sources x) number source before) same reached) gives (subst (λ (x : CommandWords). IsRefusal (needs_families x) before held fault) same is)
  audit_not_refused _ _ _ _ _ (accepted_audit history names files bytes specs scripts objects texts spelled given small said tells) (bad_script d others number source before known held fault spells sound says reached gives is apart) =
      let same = same_command (Audit history names files) d spelled spells in
      let all = told (Audit history names files) spelled in
      let one = say_one contents false [] (named names) others specs all.0 (subst (λ (x : CommandWords). SaySpecifications contents (needs_families x) [] (spec_sources x) others) same says) said in
      scripts_not_refused contents false specs 198000 (named files) number source scripts before objects texts known held fault all.1 tells
      (subst (λ v. AreScriptsUpTo contents false v 198000 (named files) number source before known) one
      (subst (λ (x : CommandWords). AreScriptsUpTo contents (heeds_order x) others (steps_before x) (script_sources x) number source before known) same reached)) gives
      (subst (λ v. IsScriptFileFault false v (198000 + step_count before) known held fault) one
      (subst (λ (x : CommandWords). IsScriptFileFault (heeds_order x) others (steps_before x + step_count before) known held fault) same is))
  audit_not_refused _ _ _ _ _ (accepted_audit history names files bytes specs scripts objects texts spelled given small said tells) (bad_order d others some known held number fault spells says reads is apart alone) =
      never_audit d history names files (same_command d (Audit history names files) spells spelled) alone
  audit_not_refused _ _ _ _ _ (accepted_audit history names files bytes specs scripts objects texts spelled given small said tells) (bad_part spec recording others held number fault spells says gives is) =
      never_audit (Sweep spec recording) history names files (same_command (Sweep spec recording) (Audit history names files) spells spelled) refl

  not_refused : (status : Status) (job : Job) → IsSound job → IsJob words contents job → IsJob words contents (Refused status) → ⊥
  not_refused status (Refused other) sound job refused = sound
  not_refused status (Accepted c specs scripts objects asked) sound job refused = accepted_not_refused status c specs scripts objects asked job refused
  not_refused status (AcceptedParts specs parts) sound job refused = parts_not_refused status specs parts job refused
  not_refused status (AcceptedAudit specs scripts objects bytes) sound job refused = audit_not_refused status specs scripts objects bytes job refused

  -- A command whose job isn't refused, and that met no fault of the folder or the sink, was done, or memory was short.
  pub completes : (job : Job) → IsSound job → IsJob words contents job → (status : Status) → IsCaused words contents status
      → ((file : ℕ) → status ≡ ReadFailed file → ⊥) → (status ≡ WriteFailed → ⊥) → (status ≡ Done) ⊎ (status ≡ NoMemory)
  completes job sound is Done caused no_read no_write = inl refl
  completes job sound is NoMemory caused no_read no_write = inr refl
  completes job sound is Usage caused no_read no_write = absurd (not_refused Usage job sound is caused)
  completes job sound is (BadSpec f x) caused no_read no_write = absurd (not_refused (BadSpec f x) job sound is caused)
  completes job sound is (BadScript f x) caused no_read no_write = absurd (not_refused (BadScript f x) job sound is caused)
  completes job sound is BadHistory caused no_read no_write = absurd (not_refused BadHistory job sound is caused)
  completes job sound is (ReadFailed f) caused no_read no_write = absurd (no_read f refl)
  completes job sound is WriteFailed caused no_read no_write = absurd (no_write refl)

-- ---- the causes, in the order of the work

module _ (words : List (List ℕ)) (contents : List ℕ → Option (List ℕ)) (c : CommandWords) (spelled : command_of words ≡ Some c) where
  history_stopped : (history : List ℕ) (specs scripts : List (List ℕ)) → c ≡ Audit history specs scripts → (status : Status) → IsNoHistory contents history status → IsCaused words contents status
  history_stopped history specs scripts is BadHistory h = bad_history history specs scripts h.0 (spelled ∙ ap (λ v. Some v) is) h.1 h.2
  history_stopped history specs scripts is (ReadFailed f) h = subst (λ n. ReachesFile words contents n) (sym h) (history_file history specs scripts (spelled ∙ ap (λ v. Some v) is))
  history_stopped history specs scripts is NoMemory h = tt
  history_stopped history specs scripts is Done h = absurd h
  history_stopped history specs scripts is Usage h = absurd h
  history_stopped history specs scripts is (BadSpec n x) h = absurd h
  history_stopped history specs scripts is (BadScript n x) h = absurd h
  history_stopped history specs scripts is WriteFailed h = absurd h

  specs_stopped : IsHistorySound contents c → (status : Status) → StopsSpecs contents (files_before c) (needs_families c) (spec_sources c) status → IsCaused words contents status
  specs_stopped sound (BadSpec f x) h =
      let same : h.number ≡ f = sym h.stopped.0 in
      bad_spec c f h.source h.before h.stopped.1.0 x spelled sound (subst (λ n. AreReadUpTo contents (needs_families c) (spec_sources c) n h.source h.before) same h.reached) h.stopped.1.1 h.stopped.1.2
  specs_stopped sound (ReadFailed f) h =
      subst (λ n. ReachesFile words contents n) (sym h.stopped.0) (spec_file c h.number h.source h.before spelled sound h.reached h.stopped.1)
  specs_stopped sound NoMemory h = tt
  specs_stopped sound Done h = absurd h.stopped
  specs_stopped sound Usage h = absurd h.stopped
  specs_stopped sound (BadScript n x) h = absurd h.stopped
  specs_stopped sound WriteFailed h = absurd h.stopped
  specs_stopped sound BadHistory h = absurd h.stopped

  -- scripts ask for nothing where a history is audited
  order_stopped : (specs : List Specification) → SaySpecifications contents (needs_families c) [] (spec_sources c) specs → reads_recording c ≡ false
      → (k : ℕ) (x : ScriptFault) → StopsInOrder contents (heeds_order c) specs (steps_before c) (script_sources c) (BadScript k x) → IsJob words contents (Refused (BadScript k x))
  order_stopped specs said separate k x h = by_case (is_audit c) refl
    where
      by_case : (b : Bool) → is_audit c ≡ b → IsJob words contents (Refused (BadScript k x))
      by_case true is = absurd (unasked_not_wrong h.texts k x (subst (λ b. IsWrong (asked_by b h.texts) k x) (ap not is) h.wrong))
      by_case false is =
          let heard : heeds_order c ≡ true = heeds c is in
          bad_order c specs h.scripts h.objects h.texts k x spelled said
          (subst (λ b. SayScripts contents b specs 0 [] (script_sources c) h.scripts h.objects h.texts) heard
          (subst (λ n. SayScripts contents (heeds_order c) specs n [] (script_sources c) h.scripts h.objects h.texts) (no_audit_steps c is) h.said))
          (subst (λ b. IsWrong (asked_by b h.texts) k x) heard h.wrong) separate is

  scripts_stopped : IsHistorySound contents c → (specs : List Specification) → SaySpecifications contents (needs_families c) [] (spec_sources c) specs → reads_recording c ≡ false
      → (status : Status) → StopsScripts contents (heeds_order c) specs (files_before c + length (spec_sources c)) (steps_before c) (script_sources c) status → IsCaused words contents status
  scripts_stopped sound specs said separate (BadScript k x) (inl h) =
      let same : h.number ≡ k = sym h.stopped.0 in
      bad_script c specs k h.source h.before h.names h.stopped.1.0 x spelled sound said (subst (λ n. AreScriptsUpTo contents (heeds_order c) specs (steps_before c) (script_sources c) n h.source h.before h.names) same h.reached) h.stopped.1.1 h.stopped.1.2 separate
  scripts_stopped sound specs said separate (BadScript k x) (inr h) = order_stopped specs said separate k x h
  scripts_stopped sound specs said separate (ReadFailed f) (inl h) =
      subst (λ n. ReachesFile words contents n) (sym h.stopped.0) (script_file c specs h.number h.source h.before h.names spelled sound said h.reached h.stopped.1)
  scripts_stopped sound specs said separate (ReadFailed f) (inr h) = absurd h.wrong
  scripts_stopped sound specs said separate NoMemory h = tt
  scripts_stopped sound specs said separate Done (inl h) = absurd h.stopped
  scripts_stopped sound specs said separate Done (inr h) = absurd h.wrong
  scripts_stopped sound specs said separate Usage (inl h) = absurd h.stopped
  scripts_stopped sound specs said separate Usage (inr h) = absurd h.wrong
  scripts_stopped sound specs said separate (BadSpec n x) (inl h) = absurd h.stopped
  scripts_stopped sound specs said separate (BadSpec n x) (inr h) = absurd h.wrong
  scripts_stopped sound specs said separate WriteFailed (inl h) = absurd h.stopped
  scripts_stopped sound specs said separate WriteFailed (inr h) = absurd h.wrong
  scripts_stopped sound specs said separate BadHistory (inl h) = absurd h.stopped
  scripts_stopped sound specs said separate BadHistory (inr h) = absurd h.wrong

  recording_stopped : (spec recording : List ℕ) (specs : List Specification) → c ≡ Sweep spec recording → SaySpecifications contents false [] (named (spec ∷ [])) specs → (status : Status) → IsNoRecording contents specs recording status → IsCaused words contents status
  recording_stopped spec recording specs is said (BadScript k x) h = bad_part spec recording specs h.0 k x (spelled ∙ ap (λ v. Some v) is) said h.1 h.2
  recording_stopped spec recording specs is said (ReadFailed f) h =
      subst (λ n. ReachesFile words contents n) (sym h)
      (script_file (Sweep spec recording) specs 0 (Named recording) [] [] (spelled ∙ ap (λ v. Some v) is) tt said (record { first = []; rest = []; texts = []; split = refl; numbered = refl; read = (refl, refl, refl) }) tt)
  recording_stopped spec recording specs is said NoMemory h = tt
  recording_stopped spec recording specs is said Done h = absurd h
  recording_stopped spec recording specs is said Usage h = absurd h
  recording_stopped spec recording specs is said (BadSpec n x) h = absurd h
  recording_stopped spec recording specs is said WriteFailed h = absurd h
  recording_stopped spec recording specs is said BadHistory h = absurd h

  pub stopped_caused : (status : Status) → StopsCommand contents c status → IsCaused words contents status
  stopped_caused _ short = tt
  stopped_caused _ (at_history history specs scripts status is h) = history_stopped history specs scripts is status h
  stopped_caused _ (at_spec status sound h) = specs_stopped sound status h
  stopped_caused _ (at_script specs status sound said h separate) = scripts_stopped sound specs said separate status h
  stopped_caused _ (at_recording spec recording specs status is said h) = recording_stopped spec recording specs is said status h

-- ---- such a status comes before anything is written

before_spec : (contents : List ℕ → Option (List ℕ)) (families : Bool) (before : List Specification) (files number : ℕ) (source : Source) (status : Status) → IsNoSpec contents families before files number source status → IsBeforeWriting status
before_spec contents families before files number source Done h = h
before_spec contents families before files number source WriteFailed h = h
before_spec contents families before files number source Usage h = tt
before_spec contents families before files number source (BadSpec f x) h = tt
before_spec contents families before files number source (BadScript f x) h = tt
before_spec contents families before files number source (ReadFailed f) h = tt
before_spec contents families before files number source NoMemory h = tt
before_spec contents families before files number source BadHistory h = tt

before_script : (contents : List ℕ → Option (List ℕ)) (ordered : Bool) (specs : List Specification) (files count : ℕ) (names : List (List ℕ)) (number : ℕ) (source : Source) (status : Status) → IsNoScript contents ordered specs files count names number source status → IsBeforeWriting status
before_script contents ordered specs files count names number source Done h = h
before_script contents ordered specs files count names number source WriteFailed h = h
before_script contents ordered specs files count names number source Usage h = tt
before_script contents ordered specs files count names number source (BadSpec f x) h = tt
before_script contents ordered specs files count names number source (BadScript f x) h = tt
before_script contents ordered specs files count names number source (ReadFailed f) h = tt
before_script contents ordered specs files count names number source NoMemory h = tt
before_script contents ordered specs files count names number source BadHistory h = tt

before_order : (asked : List (List SyncLine)) (status : Status) → IsNoOrder asked status → IsBeforeWriting status
before_order asked Done h = h
before_order asked WriteFailed h = h
before_order asked Usage h = tt
before_order asked (BadSpec f x) h = tt
before_order asked (BadScript f x) h = tt
before_order asked (ReadFailed f) h = tt
before_order asked NoMemory h = tt
before_order asked BadHistory h = tt

before_recording : (contents : List ℕ → Option (List ℕ)) (specs : List Specification) (name : List ℕ) (status : Status) → IsNoRecording contents specs name status → IsBeforeWriting status
before_recording contents specs name Done h = h
before_recording contents specs name WriteFailed h = h
before_recording contents specs name Usage h = tt
before_recording contents specs name (BadSpec f x) h = tt
before_recording contents specs name (BadScript f x) h = tt
before_recording contents specs name (ReadFailed f) h = tt
before_recording contents specs name NoMemory h = tt
before_recording contents specs name BadHistory h = tt

before_history : (contents : List ℕ → Option (List ℕ)) (name : List ℕ) (status : Status) → IsNoHistory contents name status → IsBeforeWriting status
before_history contents name Done h = h
before_history contents name WriteFailed h = h
before_history contents name Usage h = tt
before_history contents name (BadSpec f x) h = tt
before_history contents name (BadScript f x) h = tt
before_history contents name (ReadFailed f) h = tt
before_history contents name NoMemory h = tt
before_history contents name BadHistory h = tt

pub stopped_before : (contents : List ℕ → Option (List ℕ)) (c : CommandWords) (status : Status) → StopsCommand contents c status → IsBeforeWriting status
stopped_before contents c _ short = tt
stopped_before contents c _ (at_history history specs scripts status is h) = before_history contents history status h
stopped_before contents c _ (at_spec status sound h) = before_spec contents (needs_families c) h.before (files_before c) h.number h.source status h.stopped
stopped_before contents c _ (at_recording spec recording specs status is said h) = before_recording contents specs recording status h
stopped_before contents c _ (at_script specs status sound said (inl h) separate) =
    before_script contents (heeds_order c) specs (files_before c + length (spec_sources c)) (steps_before c + step_count h.before) h.names h.number h.source status h.stopped
stopped_before contents c _ (at_script specs status sound said (inr h) separate) = before_order (asked_by (heeds_order c) h.texts) status h.wrong

-- ---- files

-- there are bytes of more than any number
more_than : (n : ℕ) → (bytes : List ℕ) × (n < length bytes)
more_than zero = (0 ∷ [], omega arith)
more_than (suc n) = let more = more_than n in (0 ∷ more.0, omega (arith, more.1))

pub too_long_bytes : (most : ℕ) (o : Option (List ℕ)) → IfSome o (λ held. most < length held) → (bytes : List ℕ) × IfSome o (λ held. bytes ≡ held) × (most < length bytes)
too_long_bytes most None h = let more = more_than most in (more.0, tt, more.1)
too_long_bytes most (Some held) h = (held, refl, h)

-- a file that is too long says no specification, and no script
long_spec : (contents : List ℕ → Option (List ℕ)) (name : List ℕ) (families : Bool) (before : List Specification) → IfSome (contents name) (λ held. most_bytes < length held) → (bytes : List ℕ) × Gives contents (Named name) bytes × IsRefusal families before bytes spec.TooLong
long_spec contents name families before h =
    let long = too_long_bytes most_bytes (contents name) h in
    (long.0, long.1, faulty (spec_too_long long.2))

long_script : (contents : List ℕ → Option (List ℕ)) (name : List ℕ) (ordered : Bool) (specs : List Specification) (count : ℕ) (names : List (List ℕ)) → IfSome (contents name) (λ held. most_bytes < length held) → (bytes : List ℕ) × Gives contents (Named name) bytes × IsScriptFileFault ordered specs count names bytes script.TooLong
long_script contents name ordered specs count names h =
    let long = too_long_bytes most_bytes (contents name) h in
    (long.0, long.1, file_too_long long.2)

-- a file that wasn't loaded, as a source of specifications and as one of scripts
pub faulty_not_loaded : (contents : List ℕ → Option (List ℕ)) (name : List ℕ) (number most : ℕ) (status : Status) → IsFaulty status → IfSome (contents name) (λ held. most < length held) → IsNotLoaded contents name number most status status
faulty_not_loaded contents name number most (BadSpec f x) h long = (refl, long)
faulty_not_loaded contents name number most (BadScript n x) h long = (refl, long)
faulty_not_loaded contents name number most BadHistory h long = (refl, long)
faulty_not_loaded contents name number most Done h long = absurd h
faulty_not_loaded contents name number most Usage h long = absurd h
faulty_not_loaded contents name number most (ReadFailed f) h long = absurd h
faulty_not_loaded contents name number most WriteFailed h long = absurd h
faulty_not_loaded contents name number most NoMemory h long = absurd h

pub no_failed_read : {T : Type 0} (status : Status) (file : ℕ) → IsFaulty status → ◌≡◌ {A = Result T Status} (Err status) (Err (ReadFailed file)) → ⊥
no_failed_read status file h is = subst IsFaulty (same_err is) h

pub spec_not_loaded : (contents : List ℕ → Option (List ℕ)) (name : List ℕ) (families : Bool) (before : List Specification) (files number : ℕ) (status : Status) → IsNotLoaded contents name (files + number) most_bytes (BadSpec number spec.TooLong) status → IsNoSpec contents families before files number (Named name) status
spec_not_loaded contents name families before files number (ReadFailed f) h = (h, tt)
spec_not_loaded contents name families before files number NoMemory h = tt
spec_not_loaded contents name families before files number (BadSpec f x) h =
    let same : f ≡ number = cc (h.0) in
    let fault : x ≡ spec.TooLong = cc (h.0) in
    (same, rw fault (long_spec contents name families before h.1))
spec_not_loaded contents name families before files number Done h = absurd (cc (h.0))
spec_not_loaded contents name families before files number Usage h = absurd (cc (h.0))
spec_not_loaded contents name families before files number (BadScript n x) h = absurd (cc (h.0))
spec_not_loaded contents name families before files number WriteFailed h = absurd (cc (h.0))
spec_not_loaded contents name families before files number BadHistory h = absurd (cc (h.0))

pub script_not_loaded : (contents : List ℕ → Option (List ℕ)) (name : List ℕ) (ordered : Bool) (specs : List Specification) (files count : ℕ) (names : List (List ℕ)) (number : ℕ) (status : Status) → IsNotLoaded contents name (files + number) most_bytes (BadScript number script.TooLong) status → IsNoScript contents ordered specs files count names number (Named name) status
script_not_loaded contents name ordered specs files count names number (ReadFailed f) h = (h, tt)
script_not_loaded contents name ordered specs files count names number NoMemory h = tt
script_not_loaded contents name ordered specs files count names number (BadScript n x) h =
    let same : n ≡ number = cc (h.0) in
    let fault : x ≡ script.TooLong = cc (h.0) in
    (same, rw fault (long_script contents name ordered specs count names h.1))
script_not_loaded contents name ordered specs files count names number Done h = absurd (cc (h.0))
script_not_loaded contents name ordered specs files count names number Usage h = absurd (cc (h.0))
script_not_loaded contents name ordered specs files count names number (BadSpec n x) h = absurd (cc (h.0))
script_not_loaded contents name ordered specs files count names number WriteFailed h = absurd (cc (h.0))
script_not_loaded contents name ordered specs files count names number BadHistory h = absurd (cc (h.0))

-- a history
pub history_not_loaded : (contents : List ℕ → Option (List ℕ)) (name : List ℕ) (status : Status) → IsNotLoaded contents name 0 most_of_history BadHistory status → IsNoHistory contents name status
history_not_loaded contents name (ReadFailed f) h = h
history_not_loaded contents name NoMemory h = tt
history_not_loaded contents name BadHistory h = too_long_bytes most_of_history (contents name) h.1
history_not_loaded contents name Done h = absurd (cc (h.0))
history_not_loaded contents name Usage h = absurd (cc (h.0))
history_not_loaded contents name (BadSpec f x) h = absurd (cc (h.0))
history_not_loaded contents name (BadScript n x) h = absurd (cc (h.0))
history_not_loaded contents name WriteFailed h = absurd (cc (h.0))

-- bytes that say none, as they stand in a source
pub spec_from : (contents : List ℕ → Option (List ℕ)) (families : Bool) (before : List Specification) (files number : ℕ) (source : Source) (bytes : List ℕ) → Gives contents source bytes → (status : Status) → IsNoSpecIn families before number bytes status → IsNoSpec contents families before files number source status
spec_from contents families before files number source bytes given (BadSpec f x) h = (h.0, (bytes, given, h.1))
spec_from contents families before files number source bytes given NoMemory h = tt
spec_from contents families before files number source bytes given Done h = absurd h
spec_from contents families before files number source bytes given Usage h = absurd h
spec_from contents families before files number source bytes given (BadScript n x) h = absurd h
spec_from contents families before files number source bytes given (ReadFailed n) h = absurd h
spec_from contents families before files number source bytes given WriteFailed h = absurd h
spec_from contents families before files number source bytes given BadHistory h = absurd h

pub script_from : (contents : List ℕ → Option (List ℕ)) (ordered : Bool) (specs : List Specification) (files count : ℕ) (names : List (List ℕ)) (number : ℕ) (source : Source) (bytes : List ℕ) → Gives contents source bytes → (status : Status) → IsNoScriptFileIn ordered specs count names number bytes status → IsNoScript contents ordered specs files count names number source status
script_from contents ordered specs files count names number source bytes given (BadScript k x) h = (h.0, (bytes, given, h.1))
script_from contents ordered specs files count names number source bytes given NoMemory h = tt
script_from contents ordered specs files count names number source bytes given Done h = absurd h
script_from contents ordered specs files count names number source bytes given Usage h = absurd h
script_from contents ordered specs files count names number source bytes given (BadSpec n x) h = absurd h
script_from contents ordered specs files count names number source bytes given (ReadFailed n) h = absurd h
script_from contents ordered specs files count names number source bytes given WriteFailed h = absurd h
script_from contents ordered specs files count names number source bytes given BadHistory h = absurd h

-- a count that rose later rose since before
pub risen_before : {before middle after : ℕ} → before ≤ middle → HasRisen middle after → HasRisen before after
risen_before {before} {middle} {after} le h = elim h [ inl more ↦ inl (omega (arith, le, more)) | inr last ↦ inr last ]

pub for_err : {V E : Type 0} (P Q : E → Type 0) (r : Result V E) → ((e : E) → P e → Q e) → IfErr r P → IfErr r Q
for_err P Q (Ok v) f h = tt
for_err P Q (Err e) f h = f e h

-- words that spell no command
pub words_caused : (words : List (List ℕ)) (contents : List ℕ → Option (List ℕ)) (status : Status) → ((status ≡ Usage) × (command_of words ≡ None)) ⊎ (status ≡ NoMemory) → IsCaused words contents status
words_caused words contents status (inl h) = subst (IsCaused words contents) (sym h.0) (no_command h.1)
words_caused words contents status (inr e) = subst (IsCaused words contents) (sym e) tt
