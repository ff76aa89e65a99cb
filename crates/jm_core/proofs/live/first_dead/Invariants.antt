use Rattle.std.proofs.Common.{◌≡◌, take}
use Rattle.std.specs.Prelude.{None}
use Rattle.jm_core.specs.Inside.{first_dead_by}
use Rattle.jm_core.proofs.live.first_dead.Given as goal

abbrev pub invariant-loop-p : goal.invariant-loop-p
invariant-loop-p l = first_dead_by l.objects (take l.p l.binding) ≡ None
