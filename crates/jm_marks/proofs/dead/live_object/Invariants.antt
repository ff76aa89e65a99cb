use Rattle.std.proofs.Common.{◌≡◌, drop}
use Rattle.jm_marks.specs.Marks.{has_live}
use Rattle.jm_marks.proofs.dead.live_object.Given as goal

abbrev pub invariant-loop-p : goal.invariant-loop-p
invariant-loop-p l = has_live l.objects (drop l.p l.binding) ≡ has_live l.objects l.binding
