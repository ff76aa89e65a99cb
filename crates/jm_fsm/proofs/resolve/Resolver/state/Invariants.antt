use Rattle.std.specs.Prelude.{string_bytes}
use Rattle.std.proofs.Common.{◌≡◌, drop}
use Rattle.jm_events.specs.Events.{event_names}
use Rattle.jm_reading.specs.Faults.{with_each}
use Rattle.jm_fsm.specs.Faults.{with_transition, state_said}
use Rattle.jm_fsm.proofs.resolve.Resolver.state.Given as goal

abbrev pub invariant-loop-transition : goal.invariant-loop-transition
invariant-loop-transition l = with_each (with_transition l.self.bytes.now (event_names l.self.table.now) l.self.states.now) (record { name = string_bytes l.state-inside.name; transitions = l.state-inside.transitions.items; fallback = l.state-inside.fallback }) (drop l.transition-index l.transitions) ≡ state_said l.self.bytes.now (event_names l.self.table.now) l.self.states.now l.fn.name l.transitions
