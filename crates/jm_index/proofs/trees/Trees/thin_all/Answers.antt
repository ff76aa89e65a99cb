use Rattle.std.proofs.Common.{arith}
use Rattle.jm_index.proofs.TreeLemmas.{AreThinned-trans}
use Rattle.jm_index.proofs.trees.Trees.thin_all.Goals as goal

pub loop-bound-preserved : goal.loop-bound-preserved
loop-bound-preserved c = (omega (arith, c.in-Some.ensures.within), AreThinned-trans _ _ _ _ c.loop-bound.invariant.1 c.thin-in-Some.ensures)
