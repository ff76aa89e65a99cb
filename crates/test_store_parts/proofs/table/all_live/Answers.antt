use Rattle.std.proofs.Common.{arith}
use Rattle.jm_index.proofs.BindingLemmas.{object_at_within}
use Rattle.test_store_parts.proofs.table.all_live.Goals as goal

pub returns : goal.returns
returns c =
    λ all o (p, at). let within = object_at_within _ p o at in c.loop-p.invariant p o (omega (arith, within, c.mask-mask.ensures.eight, c.loop-p-test.false)) at
