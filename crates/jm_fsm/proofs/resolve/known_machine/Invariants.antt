use Rattle.std.proofs.Common.{◌≡◌, [], drop}
use Rattle.jm_events.specs.Events.{event_names}
use Rattle.jm_reading.specs.Faults.{with_each}
use Rattle.jm_fsm.specs.Faults.{with_part, state_names}
use Rattle.jm_fsm.proofs.resolve.known_machine.Given as goal

abbrev pub invariant-loop-part : goal.invariant-loop-part
invariant-loop-part l = with_each (with_part l.bytes (event_names l.table) (state_names l.bytes l.parts)) (record { states = l.states.items; aliases = l.aliases.items }) (drop l.part-index l.parts) ≡ with_each (with_part l.bytes (event_names l.table) (state_names l.bytes l.parts)) (record { states = []; aliases = [] }) l.parts
