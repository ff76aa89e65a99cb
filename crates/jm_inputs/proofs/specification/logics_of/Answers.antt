use Rattle.jm_inputs.proofs.BlockLemmas.{logic_added}
use Rattle.jm_inputs.proofs.specification.logics_of.Goals as goal

pub loop-property-preserved : goal.loop-property-preserved
loop-property-preserved c =
    logic_added c.args.properties.now c.loop-property.property-index c.property-item.result c.loop-property-test.true c.property-item.is
    c.loop-property.logics.items _ c.loop-property.invariant c.in_ok-push.ensures.items
