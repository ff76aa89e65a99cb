use Rattle.std.proofs.Common.{ℕ, ◌<◌, Contains}
use Rattle.jm_coenable.specs.Needs.{set_at}
use Rattle.jm_coenable.proofs.searches.is_in_family.Given as goal

abbrev pub invariant-loop-state : goal.invariant-loop-state
invariant-loop-state l = (state : ℕ) → state < l.state → Contains (set_at l.arrivals state) l.letter.0 → Contains (set_at l.needed state) l.mask → ⊥
