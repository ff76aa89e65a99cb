use Rattle.std.proofs.Common.{◌≡◌, [], drop}
use Rattle.jm_events.specs.Events.{event_names}
use Rattle.jm_reading.specs.Faults.{with_each}
use Rattle.jm_ptltl.specs.Faults.{with_node}
use Rattle.jm_ptltl.proofs.resolve.nodes_of.Given as goal

abbrev pub invariant-loop-node : goal.invariant-loop-node
invariant-loop-node l = with_each (with_node l.bytes (event_names l.table)) l.said (drop l.node-index l.nodes) ≡ with_each (with_node l.bytes (event_names l.table)) [] l.nodes
