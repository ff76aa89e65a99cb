use Rattle.std.proofs.Common.{◌≡◌, ◌≤◌, drop, map}
use Rattle.jm_spec.specs.Trees.{facts_of}
use Rattle.jm_machine.specs.Handlers.{handlers_in, duplicates_fault}
use Rattle.jm_machine.proofs.handlers.check_distinct.Given as goal

abbrev pub invariant-loop-property : goal.invariant-loop-property
invariant-loop-property l = record {
  few : handlers_in (map facts_of (drop l.property-index l.properties)) ≤ 16;
  rest : duplicates_fault l.bytes (map facts_of (drop l.property-index l.properties)) ≡ duplicates_fault l.bytes (map facts_of l.properties);
}
