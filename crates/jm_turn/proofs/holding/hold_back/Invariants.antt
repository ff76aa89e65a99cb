use Rattle.std.proofs.Common.{◌≤◌}
use Rattle.jm_turn.proofs.holding.hold_back.Given as goal

abbrev pub invariant-loop-nap : goal.invariant-loop-nap
invariant-loop-nap g l = l.looks ≤ 1000
