use Rattle.std.proofs.Common.{◌≡◌, ℕ, ◌-◌, ◌+◌, vec_len}
use Rattle.jm_index.specs.Layout.{posting_at}
use Rattle.jm_index.proofs.trees.Trees.cover.Given as goal

abbrev pub invariant-loop-alloc : goal.invariant-loop-alloc
invariant-loop-alloc l = (m q : ℕ) → posting_at l.self-inside.trees.items m q ≡ posting_at l.initial.self-inside.trees.items m q

abbrev pub decreases-loop-alloc : goal.decreases-loop-alloc
decreases-loop-alloc l = l.mask + 1 - vec_len l.self-inside.trees
