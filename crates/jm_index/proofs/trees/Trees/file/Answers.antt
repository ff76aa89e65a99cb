use Rattle.std.proofs.Common.{◌≡◌, ◌<◌, List, ℕ, length, subst}
use Rattle.std.specs.Prelude.{Contains}
use Rattle.jm_index.specs.Layout.{posting_of, posting_at}
use Rattle.jm_index.proofs.TreeLemmas.{tree_read, filed_tree}
use Rattle.jm_index.proofs.trees.Trees.file.Goals as goal

pub file-requires : goal.file-requires
file-requires c =
    let is : posting_of c.index_mut-tree.result.now c.args.path ≡ posting_at c.args.self.now c.args.mask c.args.path =
    tree_read _ _ _ _ _ _ c.self.view_is c.in_ok-cover.ensures.in_range c.index_mut-tree.ensures.value (c.in_ok-cover.ensures.unchanged c.args.mask c.args.path)
    in
    record { last = λ x there. c.requires.last x (subst (λ (v : List ℕ). Contains v x) is there); short = c.requires.short }

pub returns-clause-filed : goal.returns-clause-filed
returns-clause-filed c =
    let is : posting_of c.index_mut-tree.result.now c.args.path ≡ posting_at c.args.self.now c.args.mask c.args.path =
    tree_read _ _ _ _ _ _ c.self.view_is c.in_ok-cover.ensures.in_range c.index_mut-tree.ensures.value (c.in_ok-cover.ensures.unchanged c.args.mask c.args.path)
    in
    let within : c.args.mask < length c.self.inside.trees.items = rw c.self.view_is c.in_ok-cover.ensures.in_range in
    filed_tree _ _ _ _ _ _ _ within is c.file.ensures.filed
