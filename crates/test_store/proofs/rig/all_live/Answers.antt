use Rattle.std.proofs.Common.{arith, below_more}
use Rattle.jm_index.proofs.BindingLemmas.{object_at_within}
use Rattle.test_store.proofs.rig.all_live.Goals as goal

pub loop-p-preserved : goal.loop-p-preserved
loop-p-preserved c = below_more _ _ c.loop-p.invariant (c.is_live_at.ensures c.if-not-is_live_at.false)

pub returns : goal.returns
returns c = λ all p o at.
    let bound = object_at_within _ p o at in
    c.loop-p.invariant p (omega (arith, bound, c.mask-mask.ensures.eight, c.loop-p-test.false)) o at
