use Rattle.std.proofs.Common.{◌≡◌, drop, map}
use Rattle.std.specs.List.{list_any}
use Rattle.jm_spec.specs.Trees.{facts_of}
use Rattle.jm_machine.specs.Handlers.{refuses_suffix}
use Rattle.jm_machine.proofs.handlers.check_all_take_suffix.Given as goal

abbrev pub invariant-loop-property : goal.invariant-loop-property
invariant-loop-property l =
    list_any (refuses_suffix l.bytes) (map facts_of (drop l.property-index l.properties)) ≡ list_any (refuses_suffix l.bytes) (map facts_of l.properties)
