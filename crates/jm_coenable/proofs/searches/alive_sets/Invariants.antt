use Rattle.std.proofs.Common.{ℕ, ◌≡◌, ◌<◌, length}
use Rattle.jm_coenable.specs.Needs.{set_at}
use Rattle.jm_coenable.specs.Searches.{AreDeadSets}
use Rattle.jm_coenable.proofs.searches.alive_sets.Given as goal

abbrev pub invariant-loop-place : goal.invariant-loop-place
invariant-loop-place l = record {
  count : length l.alive.items ≡ l.place;
  each : (place : ℕ) → place < length l.alive.items → AreDeadSets (set_at l.needed place) (set_at l.alive.items place);
}
