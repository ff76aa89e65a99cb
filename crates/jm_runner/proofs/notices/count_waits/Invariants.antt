use Rattle.std.proofs.Common.{◌≡◌, length}
use Rattle.jm_runner.proofs.notices.count_waits.Given as goal

abbrev pub invariant-loop-cut : goal.invariant-loop-cut
invariant-loop-cut l = length l.waits.items ≡ l.names
