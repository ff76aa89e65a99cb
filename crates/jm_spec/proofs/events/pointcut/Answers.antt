use Rattle.std.proofs.Common.{codes, refl}
use Rattle.std.proofs.lemmas.Result.{err_from_is_err_and}
use Rattle.jm_reading.specs.Reading.{mark_at}
use Rattle.jm_spec.specs.Rules.{pointcut_at, run_at}
use Rattle.jm_spec.proofs.TakeLemmas.{fails_first, leaves_same}
use Rattle.jm_spec.proofs.events.pointcut.Goals as goal

pub returns-in_err-mark-clause-reads : goal.returns-in_err-mark-clause-reads
unfolding pointcut_at
returns-in_err-mark-clause-reads c =
    let p = err_from_is_err_and c.from_residual.result c.from_residual.ensures.1 in
    let old = c.args.cursor.now in
    rw (p.1, p.2) (fails_first c.in_err-mark.field-0.0 (mark_at old.bytes.now (codes ":") old.rest.now) (run_at old.bytes.now) c.in_err-mark.ensures.reads)

pub returns-clause-reads : goal.returns-clause-reads
unfolding pointcut_at
returns-clause-reads c =
    let old = c.args.cursor.now in
    let mid = c.mark.new.self in
    leaves_same c.run.result c.run.new.cursor.rest.now (run_at mid.bytes.now mid.rest.now) (pointcut_at old.bytes.now old.rest.now) (rw (c.in_ok-mark.ensures.reads, c.in_ok-mark.ensures.one.bytes) refl) c.run.ensures.reads
