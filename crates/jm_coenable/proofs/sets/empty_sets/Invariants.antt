use Rattle.std.proofs.Common.{ℕ, ◌≡◌, length, Contains}
use Rattle.jm_coenable.specs.Needs.{set_at}
use Rattle.jm_coenable.proofs.sets.empty_sets.Given as goal

abbrev pub invariant-loop-made : goal.invariant-loop-made
invariant-loop-made l = record {
  count : length l.sets.items ≡ l._made;
  empty : (place member : ℕ) → Contains (set_at l.sets.items place) member → ⊥;
}
