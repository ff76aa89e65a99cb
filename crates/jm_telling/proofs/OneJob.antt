-- A command has one job, where it is told what its files hold.
use Rattle.std.proofs.Common.{◌≡◌, ℕ, ◌+◌, ◌<◌, ◌⊎◌, inl, inr, true, false, List, [], length, Option, Some, None, refl, sym, ap, subst, ◌∙◌, arith}
use Rattle.std.proofs.lemmas.Bool.{false≢true}
use Rattle.std.specs.Prelude.{not}
use Rattle.jm_model.specs.declared.fault.SpecFault.{SpecFault}
use Rattle.jm_model.specs.declared.fault.ScriptFault.{ScriptFault}
use Rattle.jm_script.specs.declared.script.ScriptLine.{ScriptLine}
use Rattle.jm_sync.specs.Checks.{AreSound, IsWrong}
use Rattle.jm_cli.specs.Words.{CommandWords, command_of}
use Rattle.jm_cli.specs.Words.CommandWords.{Replay, Run, Check, Coenable, Gen, Sweep, Audit}
use Rattle.jm_inputs.specs.declared.status.Status.TheVariants.{Usage, BadSpec, BadScript, BadHistory}
use Rattle.jm_inputs.specs.Sources.{Source, Named, Gives, AllTold}
use Rattle.jm_inputs.specs.Commands.{history_sources, steps_before, most_of_history, IsHistorySound, spec_sources, script_sources, reads_recording, is_audit, heeds_order, needs_families}
use Rattle.jm_inputs.specs.Specifications.{Specification}
use Rattle.jm_inputs.specs.Scripts.{IsScriptFileFault}
use Rattle.jm_inputs.specs.Inputs.{IsRefusal, SaySpecifications, AreReadUpTo, step_count, SayScripts, AreScriptsUpTo, asked_by}
use Rattle.jm_inputs.specs.Recordings.{RecordedPart, IsRecording, IsRecordingFault}
use Rattle.jm_inputs.specs.Jobs.{Job, Refused, Accepted, AcceptedParts, AcceptedAudit, IsJob, no_command, bad_history, bad_spec, bad_script, bad_order, accepted, bad_part, accepted_parts, accepted_audit, AreTold}
use Rattle.jm_inputs.proofs.OneReadingLemmas.{same_some, never_some}
use Rattle.jm_inputs.proofs.InputLemmas.{one_given, say_one, specs_not_refused, scripts_not_refused}
use Rattle.jm_inputs.proofs.RecordingLemmas.{recording_has_no_fault}
use Rattle.jm_inputs.proofs.OrderLemmas.{sound_not_wrong}
use Rattle.jm_telling.specs.FirstFaults.{IsSameJob}
use Rattle.jm_telling.proofs.FirstRefusals.{one_bad_spec, one_bad_script, scripts_one, one_bad_part, one_recording}
use Rattle.jm_telling.proofs.OneOrder.{one_wrong}

-- ---- commands

-- a command that audits no history counts no steps before its scripts
no_steps_before : (c : CommandWords) → is_audit c ≡ false → steps_before c ≡ 0
no_steps_before (Audit history names files) plain = absurd (false≢true (sym plain))
no_steps_before (Replay spec script) plain = refl
no_steps_before (Run specs scripts) plain = refl
no_steps_before (Check specs) plain = refl
no_steps_before (Coenable specs) plain = refl
no_steps_before (Gen n) plain = refl
no_steps_before (Sweep spec recording) plain = refl

-- nor has it a history that is too long
no_history : (contents : List ℕ → Option (List ℕ)) (c : CommandWords) → is_audit c ≡ false → IsHistorySound contents c
no_history contents (Audit history names files) plain = absurd (false≢true (sym plain))
no_history contents (Replay spec script) plain = tt
no_history contents (Run specs scripts) plain = tt
no_history contents (Check specs) plain = tt
no_history contents (Coenable specs) plain = tt
no_history contents (Gen n) plain = tt
no_history contents (Sweep spec recording) plain = tt

never_audit : (c : CommandWords) (history : List ℕ) (names files : List (List ℕ)) → c ≡ Audit history names files → is_audit c ≡ false → ⊥
never_audit c history names files is plain = false≢true (sym plain ∙ ap is_audit is)

-- ---- the course of the work, step by step

module _ (contents : List ℕ → Option (List ℕ)) (c : CommandWords) where
  -- the job where the scripts say this
  data IsEnd (specs : List Specification) (scripts : List (List ScriptLine)) (objects texts : List (List ℕ)) : Job → Type 0 where
    order_wrong : (number : ℕ) (fault : ScriptFault) → is_audit c ≡ false → IsWrong (asked_by true texts) number fault → IsEnd specs scripts objects texts (Refused (BadScript number fault))
    order_sound : is_audit c ≡ false → AreSound (asked_by true texts) → IsEnd specs scripts objects texts (Accepted c specs scripts objects (asked_by true texts))
    history_read : (history : List ℕ) (names files : List (List ℕ)) (bytes : List ℕ) → c ≡ Audit history names files → Gives contents (Named history) bytes → IsEnd specs scripts objects texts (AcceptedAudit specs scripts objects bytes)

  -- the job of a command that reads scripts, where the specifications say this
  data IsScripted (specs : List Specification) : Job → Type 0 where
    script_faulty : (number : ℕ) (source : Source) (before : List (List ScriptLine)) (names : List (List ℕ)) (bytes : List ℕ) (fault : ScriptFault)
        → AreScriptsUpTo contents (heeds_order c) specs (steps_before c) (script_sources c) number source before names
        → Gives contents source bytes
        → IsScriptFileFault (heeds_order c) specs (steps_before c + step_count before) names bytes fault
        → IsScripted specs (Refused (BadScript number fault))
    scripts_read : (scripts : List (List ScriptLine)) (objects texts : List (List ℕ)) (job : Job)
        → SayScripts contents (heeds_order c) specs (steps_before c) [] (script_sources c) scripts objects texts
        → IsEnd specs scripts objects texts job
        → IsScripted specs job

  -- and of one that reads a recording
  data IsRecorded (specs : List Specification) : Job → Type 0 where
    part_faulty : (spec recording bytes : List ℕ) (number : ℕ) (fault : ScriptFault)
        → c ≡ Sweep spec recording
        → Gives contents (Named recording) bytes
        → IsRecordingFault specs bytes number fault
        → IsRecorded specs (Refused (BadScript number fault))
    parts_read : (spec recording bytes : List ℕ) (parts : List RecordedPart)
        → c ≡ Sweep spec recording
        → Gives contents (Named recording) bytes
        → IsRecording specs bytes parts
        → IsRecorded specs (AcceptedParts specs parts)

  abbrev IsRest : List Specification → Job → Type 0
  IsRest specs job = ((reads_recording c ≡ false) × IsScripted specs job) ⊎ ((reads_recording c ≡ true) × IsRecorded specs job)

  -- the job of the command
  data IsCourse : Job → Type 0 where
    long_history : (history : List ℕ) (names files : List (List ℕ)) (bytes : List ℕ)
        → c ≡ Audit history names files
        → Gives contents (Named history) bytes
        → most_of_history < length bytes
        → IsCourse (Refused BadHistory)
    spec_refused : (number : ℕ) (source : Source) (before : List Specification) (bytes : List ℕ) (fault : SpecFault)
        → IsHistorySound contents c
        → AreReadUpTo contents (needs_families c) (spec_sources c) number source before
        → Gives contents source bytes
        → IsRefusal (needs_families c) before bytes fault
        → IsCourse (Refused (BadSpec number fault))
    specs_read : (specs : List Specification) (job : Job)
        → IsHistorySound contents c
        → SaySpecifications contents (needs_families c) [] (spec_sources c) specs
        → IsRest specs job
        → IsCourse job

  -- what was read of scripts from 0 on, where the command heeds what they ask for
  scripts_plain : (specs : List Specification) (scripts : List (List ScriptLine)) (objects texts : List (List ℕ)) → is_audit c ≡ false → SayScripts contents true specs 0 [] (script_sources c) scripts objects texts
      → SayScripts contents (heeds_order c) specs (steps_before c) [] (script_sources c) scripts objects texts
  scripts_plain specs scripts objects texts plain said =
      subst (λ b. SayScripts contents b specs (steps_before c) [] (script_sources c) scripts objects texts) (sym (ap not plain))
      (subst (λ n. SayScripts contents true specs n [] (script_sources c) scripts objects texts) (sym (no_steps_before c plain)) said)

-- ---- each step has one outcome

module _ (contents : List ℕ → Option (List ℕ)) (c : CommandWords) (told : AllTold contents (spec_sources c) × AllTold contents (script_sources c) × AllTold contents (history_sources c)) where
  one_history : (history again : List ℕ) (names files names_again files_again : List (List ℕ)) (bytes held : List ℕ) → c ≡ Audit history names files → c ≡ Audit again names_again files_again → Gives contents (Named history) bytes → Gives contents (Named again) held → bytes ≡ held
  one_history history again names files names_again files_again bytes held is too given gives =
      let same : again ≡ history = cc (sym too ∙ is) in
      let known = (subst (λ (x : CommandWords). AllTold contents (history_sources x)) is told.2).0 in
      one_given contents (Named history) bytes held known given (subst (λ v. Gives contents (Named v) held) same gives)

  module _ (specs : List Specification) where
    one_end : (scripts : List (List ScriptLine)) (objects texts : List (List ℕ)) (job other : Job) → IsEnd contents c specs scripts objects texts job → IsEnd contents c specs scripts objects texts other → IsSameJob job other
    one_end scripts objects texts _ _ (order_wrong number fault plain is) (order_wrong n other also too) =
        let one = one_wrong (asked_by true texts) number n fault other is too in
        λ i. BadScript (one.0 i) (one.1 i)
    one_end scripts objects texts _ _ (order_wrong number fault plain is) (order_sound also sound) = absurd (sound_not_wrong (asked_by true texts) number fault sound is)
    one_end scripts objects texts _ _ (order_wrong number fault plain is) (history_read history names files bytes audits given) = absurd (never_audit c history names files audits plain)
    one_end scripts objects texts _ _ (order_sound plain sound) (order_wrong n other also too) = absurd (sound_not_wrong (asked_by true texts) n other sound too)
    one_end scripts objects texts _ _ (order_sound plain sound) (order_sound also too) = refl
    one_end scripts objects texts _ _ (order_sound plain sound) (history_read history names files bytes audits given) = absurd (never_audit c history names files audits plain)
    one_end scripts objects texts _ _ (history_read history names files bytes audits given) (order_wrong n other plain too) = absurd (never_audit c history names files audits plain)
    one_end scripts objects texts _ _ (history_read history names files bytes audits given) (order_sound plain sound) = absurd (never_audit c history names files audits plain)
    one_end scripts objects texts _ _ (history_read history names files bytes audits given) (history_read again names_again files_again held also gives) =
        ap (λ v. AcceptedAudit specs scripts objects v) (one_history history again names files names_again files_again bytes held audits also given gives)

    one_scripted : (job other : Job) → IsScripted contents c specs job → IsScripted contents c specs other → IsSameJob job other
    one_scripted _ _ (script_faulty number source before names bytes fault reached given is) (script_faulty n x some middle held other come gives also) =
        let one = one_bad_script contents (heeds_order c) specs (steps_before c) (script_sources c) number n source x before some names middle bytes held fault other told.1 reached come given gives is also in
        λ i. BadScript (one.0 i) (one.1 i)
    one_scripted _ _ (script_faulty number source before names bytes fault reached given is) (scripts_read scripts objects texts job said end) =
        absurd (scripts_not_refused contents (heeds_order c) specs (steps_before c) (script_sources c) number source scripts before objects texts names bytes fault told.1 said reached given is)
    one_scripted _ _ (scripts_read scripts objects texts job said end) (script_faulty n x some middle held other come gives also) =
        absurd (scripts_not_refused contents (heeds_order c) specs (steps_before c) (script_sources c) n x scripts some objects texts middle held other told.1 said come gives also)
    one_scripted _ _ (scripts_read scripts objects texts job said end) (scripts_read some middle fronts other tells finish) =
        let one = scripts_one contents (heeds_order c) specs (steps_before c) [] (script_sources c) scripts some objects middle texts fronts told.1 said tells in
        one_end some middle fronts job other
        (subst (λ v. IsEnd contents c specs some middle v job) one.2 (subst (λ v. IsEnd contents c specs some v texts job) one.1 (subst (λ v. IsEnd contents c specs v objects texts job) one.0 end))) finish

    -- a command has one recording, and it holds one text
    one_text : (spec recording again from bytes held : List ℕ) → c ≡ Sweep spec recording → c ≡ Sweep again from → Gives contents (Named recording) bytes → Gives contents (Named from) held → bytes ≡ held
    one_text spec recording again from bytes held is too given gives =
        let same : from ≡ recording = cc (sym too ∙ is) in
        let known = (subst (λ (x : CommandWords). AllTold contents (script_sources x)) is told.1).0 in
        one_given contents (Named recording) bytes held known given (subst (λ v. Gives contents (Named v) held) same gives)

    one_recorded : (job other : Job) → IsRecorded contents c specs job → IsRecorded contents c specs other → IsSameJob job other
    one_recorded _ _ (part_faulty spec recording bytes number fault sweeps given is) (part_faulty again from held n other also gives too) =
        let same = one_text spec recording again from bytes held sweeps also given gives in
        let one = one_bad_part specs held number n fault other (subst (λ v. IsRecordingFault specs v number fault) same is) too in
        λ i. BadScript (one.0 i) (one.1 i)
    one_recorded _ _ (part_faulty spec recording bytes number fault sweeps given is) (parts_read again from held parts also gives said) =
        let same = one_text spec recording again from bytes held sweeps also given gives in
        absurd (recording_has_no_fault specs held parts number fault said (subst (λ v. IsRecordingFault specs v number fault) same is))
    one_recorded _ _ (parts_read spec recording bytes parts sweeps given said) (part_faulty again from held n other also gives too) =
        let same = one_text spec recording again from bytes held sweeps also given gives in
        absurd (recording_has_no_fault specs held parts n other (subst (λ v. IsRecording specs v parts) same said) too)
    one_recorded _ _ (parts_read spec recording bytes parts sweeps given said) (parts_read again from held some also gives tells) =
        let same = one_text spec recording again from bytes held sweeps also given gives in
        ap (λ v. AcceptedParts specs v) (one_recording specs held parts some (subst (λ v. IsRecording specs v parts) same said) tells)

    one_rest : (job other : Job) → IsRest contents c specs job → IsRest contents c specs other → IsSameJob job other
    one_rest job other (inl h) (inl g) = one_scripted job other h.1 g.1
    one_rest job other (inl h) (inr g) = absurd (false≢true (sym h.0 ∙ g.0))
    one_rest job other (inr h) (inl g) = absurd (false≢true (sym g.0 ∙ h.0))
    one_rest job other (inr h) (inr g) = one_recorded job other h.1 g.1

  -- a history that is too long isn't one that isn't
  long_or_sound : (history : List ℕ) (names files : List (List ℕ)) (bytes : List ℕ) → c ≡ Audit history names files → Gives contents (Named history) bytes → most_of_history < length bytes → IsHistorySound contents c → ⊥
  long_or_sound history names files bytes audits given long sound =
      let known = (subst (λ (x : CommandWords). AllTold contents (history_sources x)) audits told.2).0 in
      let held = subst (λ (x : CommandWords). IsHistorySound contents x) audits sound in
      let same = one_given contents (Named history) bytes held.0 known given held.1 in
      omega (arith, long, held.2, ap (λ v. length v) same)

  one_course : (job other : Job) → IsCourse contents c job → IsCourse contents c other → IsSameJob job other
  one_course _ _ (long_history history names files bytes audits given long) (long_history again names_again files_again held also gives too) = refl
  one_course _ _ (long_history history names files bytes audits given long) (spec_refused n x some held other sound come gives too) = absurd (long_or_sound history names files bytes audits given long sound)
  one_course _ _ (long_history history names files bytes audits given long) (specs_read specs job sound said rest) = absurd (long_or_sound history names files bytes audits given long sound)
  one_course _ _ (spec_refused number source before bytes fault sound reached given is) (long_history history names files held audits gives long) = absurd (long_or_sound history names files held audits gives long sound)
  one_course _ _ (specs_read specs job sound said rest) (long_history history names files held audits gives long) = absurd (long_or_sound history names files held audits gives long sound)
  one_course _ _ (spec_refused number source before bytes fault sound reached given is) (spec_refused n x some held other also come gives too) =
      one_bad_spec contents (needs_families c) (spec_sources c) number n source x before some bytes held fault other told.0 reached come given gives is too
  one_course _ _ (spec_refused number source before bytes fault sound reached given is) (specs_read specs job also said rest) =
      absurd (specs_not_refused contents (needs_families c) (spec_sources c) number source specs before bytes fault told.0 said reached given is)
  one_course _ _ (specs_read specs job sound said rest) (spec_refused n x some held other also come gives too) =
      absurd (specs_not_refused contents (needs_families c) (spec_sources c) n x specs some held other told.0 said come gives too)
  one_course _ _ (specs_read specs job sound said rest) (specs_read others other also tells later) =
      let same = say_one contents (needs_families c) [] (spec_sources c) specs others told.0 said tells in
      one_rest others job other (subst (λ v. IsRest contents c v job) same rest) later

-- ---- the words

module _ (words : List (List ℕ)) (contents : List ℕ → Option (List ℕ)) where
  -- the words spell no command, or this is the course of the one that they spell
  data IsWay : Job → Type 0 where
    unspelled : command_of words ≡ None → IsWay (Refused Usage)
    begun : (c : CommandWords) (job : Job) → command_of words ≡ Some c → IsCourse contents c job → IsWay job

  way_of : (job : Job) → IsJob words contents job → IsWay job
  way_of _ (no_command none) = unspelled none
  way_of _ (bad_history history names files bytes spelled given long) =
      begun (Audit history names files) (Refused BadHistory) spelled (long_history history names files bytes refl given long)
  way_of _ (bad_spec c number source before bytes fault spelled sound reached given is) =
      begun c (Refused (BadSpec number fault)) spelled (spec_refused number source before bytes fault sound reached given is)
  way_of _ (bad_script c specs number source before names bytes fault spelled sound said reached given is separate) =
      let job = Refused (BadScript number fault) in
      begun c job spelled (specs_read specs job sound said (inl (separate, script_faulty number source before names bytes fault reached given is)))
  way_of _ (bad_order c specs scripts objects texts number fault spelled said tells is separate plain) =
      let job = Refused (BadScript number fault) in
      begun c job spelled (specs_read specs job (no_history contents c plain) said (inl (separate, scripts_read scripts objects texts job (scripts_plain contents c specs scripts objects texts plain tells) (order_wrong number fault plain is))))
  way_of _ (accepted c specs scripts objects texts spelled said tells sound separate plain) =
      let job = Accepted c specs scripts objects (asked_by true texts) in
      begun c job spelled (specs_read specs job (no_history contents c plain) said (inl (separate, scripts_read scripts objects texts job (scripts_plain contents c specs scripts objects texts plain tells) (order_sound plain sound))))
  way_of _ (bad_part spec recording specs bytes number fault spelled said given is) =
      let job = Refused (BadScript number fault) in
      begun (Sweep spec recording) job spelled (specs_read specs job tt said (inr (refl, part_faulty spec recording bytes number fault refl given is)))
  way_of _ (accepted_parts spec recording specs bytes parts spelled said given tells) =
      let job = AcceptedParts specs parts in
      begun (Sweep spec recording) job spelled (specs_read specs job tt said (inr (refl, parts_read spec recording bytes parts refl given tells)))
  way_of _ (accepted_audit history names files bytes specs scripts objects texts spelled given small said tells) =
      let job = AcceptedAudit specs scripts objects bytes in
      begun (Audit history names files) job spelled (specs_read specs job (bytes, given, small) said (inl (refl, scripts_read scripts objects texts job tells (history_read history names files bytes refl given))))

  one_way : AreTold words contents → (job other : Job) → IsWay job → IsWay other → IsSameJob job other
  one_way told _ _ (unspelled none) (unspelled nothing) = refl
  one_way told _ _ (unspelled none) (begun c job spelled h) = absurd (never_some (sym none ∙ spelled))
  one_way told _ _ (begun c job spelled h) (unspelled none) = absurd (never_some (sym none ∙ spelled))
  one_way told _ _ (begun c job spelled h) (begun d other spells g) =
      let same = same_some (sym spells ∙ spelled) in
      one_course contents c (told c spelled) job other h (subst (λ (x : CommandWords). IsCourse contents x other) same g)

pub one_job : (words : List (List ℕ)) (contents : List ℕ → Option (List ℕ)) (job other : Job) → AreTold words contents → IsJob words contents job → IsJob words contents other → IsSameJob job other
one_job words contents job other told h g = one_way words contents told job other (way_of words contents job h) (way_of words contents other g)
