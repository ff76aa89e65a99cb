use Rattle.std.proofs.Common.{length, sym, ◌∙◌}
use Rattle.std.specs.Prelude.{slice_index}
use Rattle.std.proofs.lemmas.Result.{err_from_is_err_and}
use Rattle.jm_script.specs.declared.script.Target.TheVariants as target
use Rattle.jm_script.proofs.ObjectLemmas.{texts, length-texts}
use Rattle.jm_lines.proofs.WordLemmas.{both_left}
use Rattle.jm_script.proofs.MeaningLemmas.{death_steps, stopped}
use Rattle.jm_script.proofs.FittingLemmas.{first_below}
use Rattle.jm_script.proofs.statement.death_line.Goals as goal

pub returns-in_err-number_all-clause-read : goal.returns-in_err-number_all-clause-read
returns-in_err-number_all-clause-read c = λ catalog.
    let p = err_from_is_err_and c.from_residual.result c.from_residual.ensures.1 in
    rw (p.1, p.2) (stopped _ _ _ _ _
    (death_steps catalog c.args.position.count c.args.position.line c.args.names.now (texts c.args.words.now) (length c.args.words.now) (sym (length-texts c.args.words.now)) (sym c.is_one_object.ensures ∙ c.if-not-is_one_object.false) (sym c.is_full.ensures ∙ c.if-is_full.false))
    (c.in_err-number_all.ensures.err (λ numbers. target.Death (slice_index numbers 0))))

pub returns-clause-fits : goal.returns-clause-fits
returns-clause-fits c = λ catalog.
    rw c.in_ok-number_all.ensures.ok (first_below c.args.names.now (texts c.args.words.now) c.number_all.new.numbers (length c.args.words.now) (sym (length-texts c.args.words.now)) (both_left _ _ (sym c.is_one_object.ensures ∙ c.if-not-is_one_object.false)) c.in_ok-number_all.ensures.numbers)
