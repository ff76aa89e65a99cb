use Rattle.std.proofs.Common.{◌≡◌, drop, map}
use Rattle.jm_spec.specs.Trees.{facts_of}
use Rattle.jm_machine.specs.Handlers.{bindings_fault}
use Rattle.jm_machine.proofs.handlers.check_all_bindings.Given as goal

abbrev pub invariant-loop-property : goal.invariant-loop-property
invariant-loop-property l =
    bindings_fault l.bytes l.full_binding l.tokens (map facts_of (drop l.property-index l.properties)) ≡ bindings_fault l.bytes l.full_binding l.tokens (map facts_of l.properties)
