use Rattle.std.proofs.Common.{ℕ, ◌<◌, get_or}
use Rattle.jm_marks.specs.Marks.{IsCoveredAt}
use Rattle.jm_marks.proofs.marks.Marks.covers.Given as goal

abbrev pub invariant-loop-mask : goal.invariant-loop-mask
invariant-loop-mask l = (k : ℕ) → k < l.mask-index → IsCoveredAt l.self.list l.above l.below (get_or l.mask-items k 0)
