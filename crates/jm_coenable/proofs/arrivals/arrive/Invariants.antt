use Rattle.jm_coenable.specs.Rounds.{IsPart, AreArrivals, IsSpreadBelow}
use Rattle.jm_coenable.proofs.arrivals.arrive.Given as goal

abbrev pub invariant-loop-last : goal.invariant-loop-last
invariant-loop-last l = IsPart (AreArrivals l.table l.goal) (IsSpreadBelow l.table l.goal l.state l.letter.0 l.last) l.fn.arrivals.items l.arrivals.items l.changed
