use Rattle.std.proofs.Common.{ℕ, ◌<◌, ◌↔◌, Contains}
use Rattle.jm_coenable.specs.Needs.{IsAlive}
use Rattle.jm_coenable.proofs.searches.alive_set.Given as goal

abbrev pub invariant-loop-number : goal.invariant-loop-number
invariant-loop-number l = (dead : ℕ) → Contains l.alive dead ↔ ((dead < l.number) × IsAlive (Contains l.needed) dead)
