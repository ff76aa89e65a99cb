use Rattle.std.proofs.Common.{[], take}
use Rattle.jm_audit.specs.Allowed.{steps_on}
use Rattle.jm_audit.specs.Pending.{AreUnderway}
use Rattle.jm_audit.proofs.pending.pending_steps.Given as goal

abbrev pub invariant-loop-caller : goal.invariant-loop-caller
invariant-loop-caller l = AreUnderway (steps_on (take l.caller l.scripts) l.number) [] l.pending.items
