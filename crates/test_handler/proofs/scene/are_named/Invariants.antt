use Rattle.std.proofs.Common.{◌≡◌, ◌<◌, ℕ, length}
use Rattle.std.specs.Prelude.{Some}
use Rattle.jm_model.specs.Bindings.{object_at}
use Rattle.test_handler.proofs.scene.are_named.Given as goal

abbrev pub invariant-loop-p : goal.invariant-loop-p
invariant-loop-p l = (q o : ℕ) → q < l.p → object_at l.instance q ≡ Some o → o < length l.objects
