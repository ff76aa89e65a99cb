use Rattle.jm_inputs.proofs.BlockLemmas.{property_said}
use Rattle.jm_inputs.proofs.specification.texts_of.Goals as goal

pub loop-property-preserved : goal.loop-property-preserved
loop-property-preserved c =
    property_said c.args.bytes.now c.args.tokens.now c.args.table.now.parameters c.args.properties.now c.loop-property.property-index c.property-item.result c.loop-property-test.true c.property-item.is
    c.loop-property.texts.items c.add_texts.new.texts.items c.loop-property.invariant c.in_ok-add_texts.ensures.ok
