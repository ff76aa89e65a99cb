use Rattle.std.proofs.Common.{ℕ, ◌<◌, ◌↔◌, Contains}
use Rattle.jm_coenable.specs.Searches.{IsNeededAtArrival}
use Rattle.jm_coenable.proofs.searches.family_set.Given as goal

abbrev pub invariant-loop-number : goal.invariant-loop-number
invariant-loop-number l = (mask : ℕ) → Contains l.family mask ↔ ((mask < l.number) × IsNeededAtArrival l.arrivals l.needed l.letter.0 mask)
