use Rattle.std.proofs.Common.{◌≡◌, ℕ, ◌<◌, Some, length}
use Rattle.jm_model.specs.Bindings.{object_at}
use Rattle.test_store_parts.proofs.table.within.Given as goal

abbrev pub invariant-loop-p : goal.invariant-loop-p
invariant-loop-p l = (p o : ℕ) → p < l.p → object_at l.binding p ≡ Some o → o < length l.objects
