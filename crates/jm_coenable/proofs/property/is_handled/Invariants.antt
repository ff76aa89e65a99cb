use Rattle.std.proofs.Common.{ℕ, ◌≡◌, ◌<◌, Some, slice_get}
use Rattle.jm_table.specs.Tables.{IsInGroup}
use Rattle.jm_coenable.proofs.property.is_handled.Given as goal

abbrev pub invariant-loop-handler : goal.invariant-loop-handler
invariant-loop-handler l = (k : ℕ) → k < l.handler → (group : ℕ) → slice_get l.goal.groups k ≡ Some group → IsInGroup l.table l.state group → ⊥
