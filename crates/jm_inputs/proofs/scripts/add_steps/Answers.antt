use Rattle.std.proofs.Common.{refl, sym, subst, ◌∙◌}
use Rattle.std.proofs.lemmas.Result.{err_from_is_err_and}
use Rattle.jm_model.specs.declared.fault.ScriptError.{ScriptError}
use Rattle.jm_script.proofs.ObjectLemmas.{length-IsExtension}
use Rattle.jm_script.specs.Answers.{IsLeft}
use Rattle.jm_script.specs.Meanings.{script_meaning}
use Rattle.jm_script.specs.Objects.{IsExtension}
use Rattle.jm_inputs.specs.Reading.{specs_in}
use Rattle.jm_inputs.proofs.OneReadingLemmas.{same_err}
use Rattle.jm_inputs.proofs.SpecSetLemmas.{its_catalog}
use Rattle.jm_inputs.proofs.NameLemmas.{script_names_kept}
use Rattle.jm_inputs.proofs.ScriptLemmas.{steps_added, steps_refused}
use Rattle.jm_inputs.proofs.scripts.add_steps.Goals as goal

pub returns-in_err-script-clause-fault : goal.returns-in_err-script-clause-fault
returns-in_err-script-clause-fault c = λ fault is.
    let p = err_from_is_err_and c.from_residual.result c.from_residual.ensures.1 in
    let same = same_err (sym p.1 ∙ is) in
    let spec_set = c.args.spec_set.now in
    let old = c.args.scripts.now in
    let bytes = c.args.bytes.now in
    steps_refused (specs_in spec_set) spec_set.catalog (sym (its_catalog spec_set c.requires.catalogued)) bytes c.requires.small old fault c.read_compact.new.objects c.read_compact.new.count
    (subst (λ (e : ScriptError). IsLeft (script_meaning spec_set.catalog old.count bytes old.objects) old.count old.objects e c.read_compact.new.objects c.read_compact.new.count) (sym p.2 ∙ same) c.in_err-script.ensures.err)

pub returns-clause-read : goal.returns-clause-read
returns-clause-read c =
    let spec_set = c.args.spec_set.now in
    steps_added (specs_in spec_set) spec_set.catalog (sym (its_catalog spec_set c.requires.catalogued)) c.args.bytes.now c.requires.small c.args.scripts.now _ c.in_ok-script.script _ c.args.lines.items
    c.in_ok-script.ensures.ok c.in_ok-script.ensures.fitting c.in_ok-script.ensures.rising c.in_ok-script.ensures.bounded.0 c.in_ok-script.ensures.bounded.1 (length-IsExtension _ _ c.in_ok-script.ensures.extended) c.in_ok-push.ensures.items
    refl c.in_ok-push-2.ensures.items refl

pub returns-in_err-script-clause-left : goal.returns-in_err-script-clause-left
returns-in_err-script-clause-left c = λ fault is.
    let p = err_from_is_err_and c.from_residual.result c.from_residual.ensures.1 in
    let same = same_err (sym p.1 ∙ is) in
    let spec_set = c.args.spec_set.now in
    let old = c.args.scripts.now in
    let bytes = c.args.bytes.now in
    let refused = subst (λ (e : ScriptError). IsLeft (script_meaning spec_set.catalog old.count bytes old.objects) old.count old.objects e c.read_compact.new.objects c.read_compact.new.count) (sym p.2 ∙ same) c.in_err-script.ensures.err in
    record {
      list = refl;
      cuts = refl;
      posted = refl;
      names = subst (IsExtension old.objects) (sym refused.named) (script_names_kept spec_set.catalog old.count bytes old.objects c.requires.few_names c.requires.few_steps);
    }
