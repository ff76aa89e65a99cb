use Rattle.std.proofs.Common.{◌<◌}
use Rattle.test_formulas.proofs.needs.state_after.Given as goal

abbrev pub invariant-loop-digit : goal.invariant-loop-digit
invariant-loop-digit l = l.state < l.table.states
