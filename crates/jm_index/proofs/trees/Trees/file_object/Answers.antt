use Rattle.std.proofs.Common.{◌≡◌, ◌+◌, arith, sym, ◌∙◌, subst}
use Rattle.jm_index.specs.Layout.{IsUnset}
use Rattle.jm_index.proofs.TreeLemmas.{AreFiled-one}
use Rattle.jm_index.proofs.trees.Trees.file_object.Goals as goal

pub returns-clause-filed : goal.returns-clause-filed
returns-clause-filed c =
    AreFiled-one _ _ _ _ _ _ c.file.ensures.filed c.file.ensures.others c.file.ensures.other_trees
    (λ o same. let equal : c.args.object ≡ o = omega (arith, same) in
    subst (IsUnset c.args.dropped.now) equal (c.requires.flagged, sym c.is_set.ensures ∙ c.if-is_set.false))

pub file-requires-clause-last : goal.file-requires-clause-last
file-requires-clause-last c = λ x there. c.requires.last c.args.mask (c.args.object + 1) x there
