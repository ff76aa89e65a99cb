use Rattle.std.proofs.Common.{◌≡◌, drop}
use Rattle.std.specs.Prelude.{find}
use Rattle.jm_model.specs.Bindings.{objects_of}
use Rattle.jm_audit.specs.Flags.{is_flagged}
use Rattle.jm_audit.proofs.dead.first_dead.Given as goal

abbrev pub invariant-loop-p : goal.invariant-loop-p
invariant-loop-p l = find (is_flagged l.flags) (objects_of (drop l.p l.binding)) ≡ find (is_flagged l.flags) (objects_of l.binding)
