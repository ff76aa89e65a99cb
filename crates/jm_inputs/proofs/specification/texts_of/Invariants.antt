use Rattle.std.proofs.Common.{map, take}
use Rattle.jm_spec.specs.Trees.{facts_of}
use Rattle.jm_inputs.specs.Specifications.{all_handlers, BlocksSay}
use Rattle.jm_inputs.proofs.specification.texts_of.Given as goal

abbrev pub invariant-loop-property : goal.invariant-loop-property
invariant-loop-property l =
    BlocksSay l.bytes l.tokens l.table.parameters (all_handlers (map facts_of (take l.property-index l.properties))) l.texts.items
