use Rattle.std.proofs.Common.{◌≡◌, drop}
use Rattle.jm_spec.specs.Faults.{advice_fault}
use Rattle.jm_spec.proofs.tree.check_advice.Given as goal

abbrev pub invariant-loop-event : goal.invariant-loop-event
invariant-loop-event l = advice_fault (drop l.event-index l.events) ≡ advice_fault l.events
