use Rattle.std.proofs.Common.{◌≡◌, drop}
use Rattle.jm_events.specs.Events.{event_names}
use Rattle.jm_grammar.specs.Faults.{clash_fault}
use Rattle.jm_grammar.proofs.check.check_clashes.Given as goal

abbrev pub invariant-loop-part : goal.invariant-loop-part
invariant-loop-part l = clash_fault l.bytes (event_names l.table) (drop l.part-index l.parts) ≡ clash_fault l.bytes (event_names l.table) l.parts
