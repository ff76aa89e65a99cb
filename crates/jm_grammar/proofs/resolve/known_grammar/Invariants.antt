use Rattle.std.proofs.Common.{◌≡◌, drop, []}
use Rattle.jm_events.specs.Events.{event_names}
use Rattle.jm_reading.specs.Faults.{with_each}
use Rattle.jm_grammar.specs.Faults.{with_part}
use Rattle.jm_grammar.proofs.resolve.known_grammar.Given as goal

abbrev pub invariant-loop-part : goal.invariant-loop-part
invariant-loop-part l = with_each (with_part l.bytes (event_names l.table) l.known) l.productions (drop l.part-index l.parts) ≡ with_each (with_part l.bytes (event_names l.table) l.known) [] l.parts
