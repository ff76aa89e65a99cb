use Rattle.std.proofs.Common.{◌≡◌, ℕ, ◌<◌, ◌^◌, false}
use Rattle.std.specs.Prelude.{Some}
use Rattle.std.specs.Int.{bit_at}
use Rattle.jm_model.specs.Bindings.{object_at}
use Rattle.jm_marks.specs.Marks.{is_dead_object}
use Rattle.jm_store.proofs.walk.binds_dead.Given as goal

abbrev pub invariant-loop-left : goal.invariant-loop-left
invariant-loop-left l = record {
  small : l.left < 2 ^ 8;
  done : (p o : ℕ) → bit_at l.params p ≡ 1 → (bit_at l.left p ≡ 1 → ⊥) → object_at l.binding p ≡ Some o
      → is_dead_object l.objects o ≡ false;
}

abbrev pub decreases-loop-left : goal.decreases-loop-left
decreases-loop-left l = l.left
