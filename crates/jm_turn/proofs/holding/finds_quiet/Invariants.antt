use Rattle.std.proofs.Common.{◌≤◌}
use Rattle.jm_turn.proofs.holding.finds_quiet.Given as goal

abbrev pub invariant-loop-looks : goal.invariant-loop-looks
invariant-loop-looks g l = l.looks ≤ l.initial.looks

abbrev pub decreases-loop-looks : goal.decreases-loop-looks
decreases-loop-looks g l = l.looks
