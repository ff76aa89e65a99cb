use Rattle.std.proofs.Common.{ℕ, ◌↔◌, take, Contains}
use Rattle.jm_table.proofs.table.Table.add_group.Given as goal

abbrev pub invariant-loop-state : goal.invariant-loop-state
invariant-loop-state l = (s : ℕ) → Contains l.members s ↔ Contains (take l.state-index l.states) s
