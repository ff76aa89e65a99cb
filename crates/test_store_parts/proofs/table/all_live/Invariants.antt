use Rattle.std.proofs.Common.{◌≡◌, ℕ, ◌<◌, Some, false}
use Rattle.jm_model.specs.Bindings.{object_at}
use Rattle.jm_index.specs.Index.{flag_of}
use Rattle.test_store_parts.proofs.table.all_live.Given as goal

abbrev pub invariant-loop-p : goal.invariant-loop-p
invariant-loop-p l = (p o : ℕ) → p < l.p → object_at l.binding p ≡ Some o → flag_of l.objects o ≡ false
