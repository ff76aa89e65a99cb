use Rattle.std.proofs.Common.{◌≡◌, ℕ, ◌<◌, Some, false, length}
use Rattle.jm_model.specs.Bindings.{object_at}
use Rattle.jm_marks.specs.Marks.{is_dead_object}
use Rattle.test_store.proofs.rig.all_live.Given as goal

abbrev pub invariant-loop-p : goal.invariant-loop-p
invariant-loop-p l =
    (p : ℕ) → p < l.p → (o : ℕ) → object_at l.binding p ≡ Some o
    → (o < length l.objects) × (is_dead_object l.objects o ≡ false)
