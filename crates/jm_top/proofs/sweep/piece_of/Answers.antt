use Rattle.std.proofs.Common.{[], length, sym, subst, ◌∙◌, arith}
use Rattle.std.proofs.lemmas.Result.{err_from_is_err_and}
use Rattle.jm_model.specs.declared.fault.ScriptError.{ScriptError}
use Rattle.jm_script.specs.Answers.{IsLeft}
use Rattle.jm_script.specs.Fitting.{FitsCatalog}
use Rattle.jm_script.specs.Meanings.{script_meaning}
use Rattle.jm_inputs.specs.Reading.{specs_in}
use Rattle.jm_inputs.proofs.OneReadingLemmas.{same_err}
use Rattle.jm_inputs.proofs.SpecSetLemmas.{its_catalog}
use Rattle.jm_top.proofs.SweepLemmas.{part_said, part_refused}
use Rattle.jm_top.proofs.sweep.piece_of.Goals as goal

pub returns-in_err-script-clause-fault : goal.returns-in_err-script-clause-fault
returns-in_err-script-clause-fault c = λ fault is.
    let p = err_from_is_err_and c.from_residual.result c.from_residual.ensures.1 in
    let same = same_err (sym p.1 ∙ is) in
    let spec_set = c.args.spec_set.now in
    let left = rw c.new-objects.ensures at c.in_err-script.ensures.err in
    part_refused (specs_in spec_set) spec_set.catalog (sym (its_catalog spec_set c.requires.spec_set.catalogued)) c.args.part.now c.requires.small c.args.count fault c.read_compact.new.objects c.read_compact.new.count
    (subst (λ (e : ScriptError). IsLeft (script_meaning spec_set.catalog c.args.count c.args.part.now []) c.args.count [] e c.read_compact.new.objects c.read_compact.new.count) (sym p.2 ∙ same) left)

pub replay_script-requires-clause-spec_set : goal.replay_script-requires-clause-spec_set
replay_script-requires-clause-spec_set c = c.requires.spec_set

pub replay_script-requires-clause-fits : goal.replay_script-requires-clause-fits
replay_script-requires-clause-fits c =
    let spec_set = c.args.spec_set.now in
    subst (λ v. FitsCatalog v (length c.read_compact.new.objects) c.in_ok-script.script) (sym (its_catalog spec_set c.requires.spec_set.catalogued)) c.in_ok-script.ensures.fitting

pub returns-clause-ok : goal.returns-clause-ok
returns-clause-ok c =
    let spec_set = c.args.spec_set.now in
    let whole = rw c.new-objects.ensures at c.in_ok-script.ensures.ok in
    record {
      part = record { script = c.in_ok-script.script; objects = c.read_compact.new.objects };
      said = part_said (specs_in spec_set) spec_set.catalog (sym (its_catalog spec_set c.requires.spec_set.catalogued)) c.args.part.now c.requires.small c.args.count c.in_ok-script.script c.read_compact.new.objects c.read_compact.new.count whole;
      counted = omega (arith, whole.counted);
      is_text = c.in_ok-text.ensures;
    }

pub returns-clause-bounded : goal.returns-clause-bounded
returns-clause-bounded c = omega (arith, c.in_ok-script.ensures.ok.counted, c.in_ok-script.ensures.bounded.0)
