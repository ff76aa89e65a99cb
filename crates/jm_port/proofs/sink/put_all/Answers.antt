use Rattle.std.proofs.Common.{arith, ◌∙◌}
use Rattle.std.proofs.lemmas.Result.{err_from_is_err_and}
use Rattle.jm_port.proofs.SinkLemmas.{appended-take, appends_prefix}
use Rattle.jm_port.proofs.sink.put_all.Goals as goal

pub returns-in_err-done-clause-err : goal.returns-in_err-done-clause-err
returns-in_err-done-clause-err g c =
    let p = err_from_is_err_and c.from_residual.result c.from_residual.ensures.1 in
    rw (p.1) (appends_prefix _ _ c.loop-done.done _ (c.in_err-done.ensures.err ∙ c.loop-done.invariant.written))

pub loop-done-preserved : goal.loop-done-preserved
loop-done-preserved g c = record {
  within = omega (arith, c.in_ok-done.ensures.within);
  written = appended-take _ _ _ _ _ _ c.loop-done.invariant.written c.in_ok-done.ensures.ok;
  counted = omega (arith, c.loop-done.invariant.counted, c.put.ensures.never_falls);
}
