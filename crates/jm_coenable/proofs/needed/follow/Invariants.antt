use Rattle.jm_coenable.specs.Rounds.{IsPart, AreNeeded, IsClosedBelow}
use Rattle.jm_coenable.proofs.needed.follow.Given as goal

abbrev pub invariant-loop-number : goal.invariant-loop-number
invariant-loop-number l = IsPart (AreNeeded l.table l.goal l.events) (IsClosedBelow l.table l.goal l.events l.state l.fn.letter.0 l.number) l.fn.needed.items l.needed.items l.changed
