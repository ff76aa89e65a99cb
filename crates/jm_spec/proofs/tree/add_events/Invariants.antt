use Rattle.std.proofs.Common.{◌≡◌, drop}
use Rattle.jm_spec.specs.Faults.{with_events}
use Rattle.jm_spec.proofs.tree.add_events.Given as goal

abbrev pub invariant-loop-event : goal.invariant-loop-event
invariant-loop-event l = with_events l.bytes l.table (drop l.event-index l.events) ≡ with_events l.bytes l.initial.table l.events
