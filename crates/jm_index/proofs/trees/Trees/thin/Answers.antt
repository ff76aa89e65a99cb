use Rattle.std.proofs.Common.{◌<◌, length, arith}
use Rattle.std.proofs.lemmas.Grind.{common_steps}
use Rattle.jm_index.proofs.TreeLemmas.{AreThinned-set}
use Rattle.jm_index.proofs.trees.Trees.thin.Goals as goal

pub returns-then-mask-len : goal.returns-then-mask-len
returns-then-mask-len c =
    let within : c.args.mask < length c.self.inside.trees.items = grind (arith, common_steps) in
    AreThinned-set _ _ _ _ _ _ c.self.view_is within c.index_mut-tree.ensures.value c.thin.ensures.within c.thin.ensures.live
