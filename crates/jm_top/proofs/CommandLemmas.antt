-- The commands, by what was read.
use Rattle.std.proofs.Common.{◌≡◌, ◌≤◌, ℕ, true, false, List, [], ◌∷◌, length, Option, Some, Result, Ok, Err, IfOk, IfErr, refl, ap, subst, ◌∙◌}
use Rattle.std.specs.List.{flat_map}
use Rattle.std.specs.Global.{Vec}
use Rattle.std.proofs.lemmas.List.Elements.{All-nil}
use Rattle.jm_sync.specs.declared.line.Cut.{Cut}
use Rattle.jm_sync.specs.Checks.{AreSound, sync_of}
use Rattle.jm_runner.proofs.PostLemmas.{none_sound}
use Rattle.jm_inputs.specs.Inputs.{asked_by}
use Rattle.jm_cli.specs.Words.CommandWords.{Replay, Run, Check, Coenable, Gen, Sweep, Audit}
use Rattle.jm_inputs.specs.declared.status.Status.{Status}
use Rattle.jm_inputs.specs.declared.status.Status.TheVariants.{ReadFailed}
use Rattle.jm_inputs.specs.declared.spec_set.SpecSet.{SpecSet}
use Rattle.jm_inputs.specs.declared.inputs.Inputs.{Inputs}
use Rattle.jm_inputs.specs.Sources.{Named, Gives}
use Rattle.jm_inputs.specs.Commands.{named, given_files, workload_specs, workload_scripts, most_of_history}
use Rattle.jm_top.specs.Histories.{IsTextOfOrdered, IsTextOfSummaries}
use Rattle.jm_top.specs.Texts.{declared_text, IsTextOfFamilies, IsTextOfVerdict}
use Rattle.jm_inputs.specs.Causes.{IsNoRecordingIn}
use Rattle.jm_inputs.specs.Reading.{specs_in, IsSpecSetOf, AreInputsOf}
use Rattle.jm_top.specs.Sweeps.{IsSweptWhole}
use Rattle.jm_inputs.proofs.OneReadingLemmas.{same_err}
use Rattle.jm_inputs.proofs.StopLemmas.{sweep_faulty, unread}
use Rattle.jm_cli.specs.Words.{CommandWords, command_of}
use Rattle.jm_inputs.specs.Jobs.{Accepted, accepted, AcceptedParts, accepted_parts, AcceptedAudit, accepted_audit}
use Rattle.jm_top.specs.Endings.{IsText}
use Rattle.jm_top.specs.CarriedOut.{IsTextOfCommand, of_scripts, of_recording, of_audit, IsCarriedOut}

-- nothing is wrong where no script is
nothing_asked : AreSound []
nothing_asked = none_sound [] (All-nil (λ (cut : Cut). cut.lines.items ≡ []))

module _ (contents : List ℕ → Option (List ℕ)) where
  pub replay_made : (spec script : List ℕ) (inputs : Inputs) (text : List ℕ) → AreInputsOf contents true 0 (named (spec ∷ [])) (named (script ∷ [])) inputs
      → IsTextOfOrdered (specs_in inputs.spec_set) inputs.scripts.list.items (sync_of inputs.scripts.cuts.items) inputs.scripts.objects text → IsTextOfCommand contents (Replay spec script) text
  replay_made spec script inputs text h made = of_scripts (record {
    specs = specs_in inputs.spec_set;
    scripts = inputs.scripts.list.items;
    objects = inputs.scripts.objects;
    texts = h.read.read.texts;
    said = h.spec_set.said;
    told = h.read.read.said;
    sound = subst AreSound h.read.read.asked h.read.sound;
    separate = refl;
    plain = refl;
    is_text = subst (λ v. IsTextOfOrdered (specs_in inputs.spec_set) inputs.scripts.list.items v inputs.scripts.objects text) h.read.read.asked made;
  })

  pub run_made : (specs scripts : List (List ℕ)) (inputs : Inputs) (text : List ℕ) → AreInputsOf contents true 0 (named specs) (named scripts) inputs
      → IsTextOfOrdered (specs_in inputs.spec_set) inputs.scripts.list.items (sync_of inputs.scripts.cuts.items) inputs.scripts.objects text → IsTextOfCommand contents (Run specs scripts) text
  run_made specs scripts inputs text h made = of_scripts (record {
    specs = specs_in inputs.spec_set;
    scripts = inputs.scripts.list.items;
    objects = inputs.scripts.objects;
    texts = h.read.read.texts;
    said = h.spec_set.said;
    told = h.read.read.said;
    sound = subst AreSound h.read.read.asked h.read.sound;
    separate = refl;
    plain = refl;
    is_text = subst (λ v. IsTextOfOrdered (specs_in inputs.spec_set) inputs.scripts.list.items v inputs.scripts.objects text) h.read.read.asked made;
  })

  pub gen_made : (n : ℕ) (inputs : Inputs) (text : List ℕ) → AreInputsOf contents true 0 (given_files workload_specs) (given_files (workload_scripts n)) inputs → IsTextOfSummaries (specs_in inputs.spec_set) inputs.scripts.list.items text → IsTextOfCommand contents (Gen n) text
  gen_made n inputs text h made = of_scripts (record {
    specs = specs_in inputs.spec_set;
    scripts = inputs.scripts.list.items;
    objects = inputs.scripts.objects;
    texts = h.read.read.texts;
    said = h.spec_set.said;
    told = h.read.read.said;
    sound = subst AreSound h.read.read.asked h.read.sound;
    separate = refl;
    plain = refl;
    is_text = made;
  })

  pub audit_made : (history bytes : List ℕ) (specs scripts : List (List ℕ)) (inputs : Inputs) (text : List ℕ) → Gives contents (Named history) bytes → length bytes ≤ most_of_history
      → AreInputsOf contents false 198000 (named specs) (named scripts) inputs
      → IsTextOfVerdict (specs_in inputs.spec_set) inputs.scripts.list.items inputs.scripts.objects bytes text → IsTextOfCommand contents (Audit history specs scripts) text
  audit_made history bytes specs scripts inputs text given small h made = of_audit (record {
    history = history;
    names = specs;
    files = scripts;
    bytes = bytes;
    specs = specs_in inputs.spec_set;
    scripts = inputs.scripts.list.items;
    objects = inputs.scripts.objects;
    texts = h.read.read.texts;
    is = refl;
    given = given;
    small = small;
    said = h.spec_set.said;
    told = h.read.read.said;
    is_text = made;
  })

  pub sweep_made : (spec recording bytes text : List ℕ) (spec_set : SpecSet) → IsSpecSetOf contents false (named (spec ∷ [])) spec_set → Gives contents (Named recording) bytes → IsSweptWhole (specs_in spec_set) bytes text → IsTextOfCommand contents (Sweep spec recording) text
  sweep_made spec recording bytes text spec_set read given made = of_recording (record {
    spec = spec;
    recording = recording;
    specs = specs_in spec_set;
    bytes = bytes;
    parts = made.parts;
    is = refl;
    said = read.said;
    given = given;
    told = made.said;
    is_text = made.is_text;
  })

  pub sweep_carried_out : (spec recording bytes : List ℕ) (spec_set : SpecSet) (r : Result (Vec ℕ) Status) → IsSpecSetOf contents false (named (spec ∷ [])) spec_set → Gives contents (Named recording) bytes → IfOk r (λ text. IsSweptWhole (specs_in spec_set) bytes text.items)
      → IfErr r (IsNoRecordingIn (specs_in spec_set) bytes) → IsCarriedOut contents (Sweep spec recording) r
  sweep_carried_out spec recording bytes spec_set (Ok text) read given made none = sweep_made spec recording bytes text.items spec_set read given made
  sweep_carried_out spec recording bytes spec_set (Err status) read given made none = sweep_faulty contents spec recording bytes spec_set status read given none

  pub check_made : (specs : List (List ℕ)) (spec_set : SpecSet) (text : List ℕ) → IsSpecSetOf contents false (named specs) spec_set → text ≡ flat_map declared_text (specs_in spec_set) → IsTextOfCommand contents (Check specs) text
  check_made specs spec_set text h made = of_scripts (record { specs = specs_in spec_set; scripts = []; objects = []; texts = []; said = h.said; told = (refl, refl, refl); sound = nothing_asked; separate = refl; plain = refl; is_text = made })

  pub coenable_made : (specs : List (List ℕ)) (spec_set : SpecSet) (text : List ℕ) → IsSpecSetOf contents true (named specs) spec_set → IsTextOfFamilies (specs_in spec_set) text → IsTextOfCommand contents (Coenable specs) text
  coenable_made specs spec_set text h made = of_scripts (record { specs = specs_in spec_set; scripts = []; objects = []; texts = []; said = h.said; told = (refl, refl, refl); sound = nothing_asked; separate = refl; plain = refl; is_text = made })

module _ (contents : List ℕ → Option (List ℕ)) (file : ℕ) where
  -- so none fails to be read
  pub gen_reads_none : (n : ℕ) (r : Result (Vec ℕ) Status) → IsCarriedOut contents (Gen n) r → r ≡ Err (ReadFailed file) → ⊥
  gen_reads_none n (Ok v) h is = absurd cc
  gen_reads_none n (Err status) h is = unread contents file n status h (same_err is)

-- a text of the command
module _ (words : List (List ℕ)) (contents : List ℕ → Option (List ℕ)) (c : CommandWords) (spelled : command_of words ≡ Some c) where
  pub text_made : (text : List ℕ) → IsTextOfCommand contents c text → IsText words contents text
  text_made text (of_scripts h) = record {
    job = Accepted c h.specs h.scripts h.objects (asked_by true h.texts);
    is_job = accepted c h.specs h.scripts h.objects h.texts spelled h.said h.told h.sound h.separate h.plain;
    is_text = h.is_text;
  }
  text_made text (of_recording h) = record {
    job = AcceptedParts h.specs h.parts;
    is_job = accepted_parts h.spec h.recording h.specs h.bytes h.parts (spelled ∙ ap (λ v. Some v) h.is) h.said h.given h.told;
    is_text = h.is_text;
  }
  text_made text (of_audit h) = record {
    job = AcceptedAudit h.specs h.scripts h.objects h.bytes;
    is_job = accepted_audit h.history h.names h.files h.bytes h.specs h.scripts h.objects h.texts (spelled ∙ ap (λ v. Some v) h.is) h.given h.small h.said h.told;
    is_text = h.is_text;
  }
