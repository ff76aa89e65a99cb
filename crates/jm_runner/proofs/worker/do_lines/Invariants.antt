use Rattle.std.proofs.Common.{length}
use Rattle.jm_runner.specs.Work.{DoLines}
use Rattle.jm_runner.proofs.worker.do_lines.Given as goal

abbrev pub invariant-loop-line : goal.invariant-loop-line
invariant-loop-line g l = DoLines l.watches l.above l.fn.hand.lines l.hand.lines l.fn.hand.seats.items l.hand.seats.items

abbrev pub decreases-loop-line : goal.decreases-loop-line
decreases-loop-line g l = length l.hand.lines
