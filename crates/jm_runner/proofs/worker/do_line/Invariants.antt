use Rattle.jm_runner.specs.Work.{DoesLineBelow}
use Rattle.jm_runner.proofs.worker.do_line.Given as goal

abbrev pub invariant-loop-spec : goal.invariant-loop-spec
invariant-loop-spec g l = DoesLineBelow l.spec l.watches l.line l.fn.seats.items l.seats.items
