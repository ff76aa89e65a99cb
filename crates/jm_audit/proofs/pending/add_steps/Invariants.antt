use Rattle.std.proofs.Common.{◌≡◌, ◌++◌, map, take}
use Rattle.jm_audit.specs.Pending.{pending_at}
use Rattle.jm_audit.proofs.pending.add_steps.Given as goal

abbrev pub invariant-loop-line : goal.invariant-loop-line
invariant-loop-line l = l.pending.items ≡ l.initial.pending.items ++ map (pending_at l.caller) (take l.line-index l.steps)
