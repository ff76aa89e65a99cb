use Rattle.std.proofs.Common.{drop}
use Rattle.jm_history.specs.Rows.{placed}
use Rattle.jm_history.proofs.PlacingLemmas.{IsPlacing}
use Rattle.jm_history.proofs.row.binding.Given as goal

abbrev pub invariant-loop-rest : goal.invariant-loop-rest
invariant-loop-rest l = IsPlacing l.objects (placed l.mask (drop l.start l.objects)) l.binding l.rest l.next l.p

abbrev pub decreases-loop-rest : goal.decreases-loop-rest
decreases-loop-rest l = l.rest
