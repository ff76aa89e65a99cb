use Rattle.std.proofs.Common.{◌∙◌, sym, ap}
use Rattle.jm_audit.specs.Slices.{advanced}
use Rattle.jm_audit.proofs.SliceLemmas.{advanced_more}
use Rattle.jm_audit.proofs.growth.advance.Goals as goal

pub loop-instance-preserved : goal.loop-instance-preserved
loop-instance-preserved c =
    advanced_more (advanced c.args.letter.0 c.args.binding.now) c.args.instances.now c.loop-instance.instances c.loop-instance.instance-index c.instance-item.result c.advance.new.self
    c.loop-instance-test.true c.loop-instance.invariant c.instance-item.is
    (c.in_ok-advance.ensures ∙ ap (advanced c.args.letter.0 c.args.binding.now) (sym c.instance-item.is))
