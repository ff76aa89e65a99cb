use Rattle.std.proofs.Common.{◌≡◌, ℕ, ◌<◌, ◌≤◌, Some}
use Rattle.jm_model.specs.Bindings.{object_at}
use Rattle.jm_marks.proofs.bound.raised.Given as goal

abbrev pub invariant-loop-p : goal.invariant-loop-p
invariant-loop-p l = record {
  more : l.initial.limit ≤ l.limit;
  within : (q o : ℕ) → q < l.p → object_at l.binding q ≡ Some o → o < l.limit;
}
