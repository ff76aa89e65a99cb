use Rattle.std.proofs.Common.{arith}
use Rattle.test_runner.proofs.meet.MeetMonitor.cut.Goals as goal

pub returns : goal.returns
returns c = λ w stands. (
  (λ yes k few e available. c.has_first.ensures.0 yes available.1),
  (λ cut. c.has_first.ensures.1 (λ none. cut 0 (omega arith) 0 (omega arith, none))),
)
