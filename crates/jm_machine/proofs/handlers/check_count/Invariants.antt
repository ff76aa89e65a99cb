use Rattle.std.proofs.Common.{◌≡◌, ◌≤◌, ◌+◌, drop, map}
use Rattle.jm_spec.specs.Trees.{facts_of}
use Rattle.jm_machine.specs.Handlers.{handlers_in}
use Rattle.jm_machine.proofs.handlers.check_count.Given as goal

abbrev pub invariant-loop-property : goal.invariant-loop-property
invariant-loop-property l = record {
  few : l.count ≤ 16;
  rest : l.count + handlers_in (map facts_of (drop l.property-index l.properties)) ≡ handlers_in (map facts_of l.properties);
}
