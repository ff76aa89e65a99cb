use Rattle.std.proofs.Common.{ℕ, ◌<◌}
use Rattle.jm_coenable.specs.Rounds.{IsPart, AreArrivals, IsSpreadState}
use Rattle.jm_coenable.proofs.arrivals.go_on.Given as goal

abbrev pub invariant-loop-state : goal.invariant-loop-state
invariant-loop-state l =
    IsPart (AreArrivals l.table l.goal) (λ sets. (state : ℕ) → state < l.state → IsSpreadState l.table l.goal state sets) l.initial.arrivals.items l.arrivals.items l.changed
