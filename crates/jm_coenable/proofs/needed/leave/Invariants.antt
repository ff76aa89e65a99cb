use Rattle.std.proofs.Common.{ℕ, ◌<◌}
use Rattle.jm_coenable.specs.Rounds.{IsPart, AreNeeded, IsClosedAt}
use Rattle.jm_coenable.proofs.needed.leave.Given as goal

abbrev pub invariant-loop-letter : goal.invariant-loop-letter
invariant-loop-letter l =
    IsPart (AreNeeded l.table l.goal l.events) (λ sets. (letter : ℕ) → letter < l.letter → IsClosedAt l.table l.goal l.events l.state letter sets) l.initial.needed.items l.needed.items l.changed
