use Rattle.std.proofs.Common.{◌≡◌, ◌≤◌, drop}
use Rattle.jm_model.specs.Bindings.{mask_where}
use Rattle.jm_audit.specs.Flags.{is_flagged}
use Rattle.jm_audit.proofs.dead.dead_mask.Given as goal

abbrev pub invariant-loop-p : goal.invariant-loop-p
invariant-loop-p l = record { low : l.p ≤ 8; dead : l.dead ≡ mask_where (is_flagged l.flags) (drop l.p l.binding) }

abbrev pub decreases-loop-p : goal.decreases-loop-p
decreases-loop-p l = l.p
