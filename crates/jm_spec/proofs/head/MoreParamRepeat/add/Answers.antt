use Rattle.std.proofs.Common.{codes, refl}
use Rattle.std.proofs.lemmas.Result.{err_from_is_err_and}
use Rattle.jm_reading.specs.Reading.{mark_at}
use Rattle.jm_spec.specs.Rules.{more_param_at, param_at}
use Rattle.jm_spec.proofs.TakeLemmas.{fails_first, takes_same}
use Rattle.jm_spec.proofs.head.MoreParamRepeat.add.Goals as goal

pub returns-in_err-mark : goal.returns-in_err-mark
unfolding more_param_at
returns-in_err-mark c =
    let p = err_from_is_err_and c.from_residual.result c.from_residual.ensures.1 in
    let old = c.args.cursor.now in
    rw (p.1, p.2) (fails_first c.in_err-mark.field-0.0 (mark_at old.bytes.now (codes ",") old.rest.now) (param_at c.args.whole old.bytes.now) c.in_err-mark.ensures.reads)

pub returns : goal.returns
unfolding more_param_at
returns c =
    takes_same c.args.cursor.now c.mark.new.self c.param.new.cursor c.param.result (param_at c.args.whole) (more_param_at c.args.whole) c.in_ok-mark.ensures.one.bytes
    (rw (c.in_ok-mark.ensures.reads, c.in_ok-mark.ensures.one.bytes) refl) c.param.ensures
