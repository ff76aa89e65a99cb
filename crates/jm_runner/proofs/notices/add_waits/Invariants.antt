use Rattle.std.proofs.Common.{◌≡◌, length}
use Rattle.jm_runner.proofs.notices.add_waits.Given as goal

abbrev pub invariant-loop-line : goal.invariant-loop-line
invariant-loop-line l = length l.waits.items ≡ length l.fn.waits.items
