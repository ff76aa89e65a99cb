use Rattle.std.proofs.Common.{arith}
use Rattle.testkit_monitor.proofs.table.TableMonitor.cut.Goals as goal

pub returns : goal.returns
returns c = λ w stands.
    (λ yes k few. c.has_no_letter.ensures.0 yes, λ cut. c.has_no_letter.ensures.1 (cut 0 (omega arith)))
