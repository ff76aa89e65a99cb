use Rattle.std.proofs.Common.{◌≡◌, map, take}
use Rattle.jm_spec.specs.Trees.{facts_of}
use Rattle.jm_inputs.specs.Specifications.{logics_of}
use Rattle.jm_inputs.proofs.specification.logics_of.Given as goal

abbrev pub invariant-loop-property : goal.invariant-loop-property
invariant-loop-property l = l.logics.items ≡ logics_of (map facts_of (take l.property-index l.properties))
