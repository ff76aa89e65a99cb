use Rattle.std.proofs.Common.{◌≡◌, ◌≤◌, drop}
use Rattle.jm_marks.specs.Marks.{dead_mask_of}
use Rattle.jm_marks.proofs.dead.dead_mask.Given as goal

abbrev pub invariant-loop-p : goal.invariant-loop-p
invariant-loop-p l = record { low : l.p ≤ 8; dead : l.dead ≡ dead_mask_of l.objects (drop l.p l.binding) }

abbrev pub decreases-loop-p : goal.decreases-loop-p
decreases-loop-p l = l.p
