use Rattle.std.proofs.Common.{ℕ, ◌≡◌, ◌<◌, length}
use Rattle.jm_coenable.specs.Needs.{set_at}
use Rattle.jm_coenable.specs.Searches.{IsFamilySet}
use Rattle.jm_coenable.proofs.searches.family_sets.Given as goal

abbrev pub invariant-loop-letter : goal.invariant-loop-letter
invariant-loop-letter l = record {
  count : length l.families.items ≡ l.letter;
  each : (letter : ℕ) → letter < length l.families.items → IsFamilySet l.arrivals l.needed letter (set_at l.families.items letter);
}
