use Rattle.std.proofs.Common.{ℕ, ◌<◌}
use Rattle.jm_coenable.specs.Rounds.{IsPart, AreArrivals, IsSpreadAt}
use Rattle.jm_coenable.proofs.arrivals.propagate.Given as goal

abbrev pub invariant-loop-letter : goal.invariant-loop-letter
invariant-loop-letter l =
    IsPart (AreArrivals l.table l.goal) (λ sets. (letter : ℕ) → letter < l.letter → IsSpreadAt l.table l.goal l.state letter sets) l.initial.arrivals.items l.arrivals.items l.changed
