use Rattle.std.proofs.Common.{◌≡◌, drop}
use Rattle.jm_reading.specs.Faults.{with_each}
use Rattle.jm_events.specs.Events.{event_names}
use Rattle.jm_ere.specs.Faults.{with_node}
use Rattle.jm_ere.proofs.reads.expression_of.Given as goal

abbrev pub invariant-loop-node : goal.invariant-loop-node
invariant-loop-node l =
    let each = with_each (with_node l.bytes (event_names l.table)) in each l.stack (drop l.node-index l.nodes) ≡ each l.initial.stack l.nodes
