use Rattle.std.proofs.Common.{◌≡◌, ℕ, ◌<◌, vec_len}
use Rattle.std.specs.Vec.{vec_capacity}
use Rattle.std.specs.Prelude.{slice_index_or}
use Rattle.jm_index.specs.declared.tree.Leaf.TheVariants.{Nothing}
use Rattle.jm_index.proofs.tree.Tree.cover.Given as goal

abbrev pub invariant-loop : goal.invariant-loop
invariant-loop l = record {
  same : (q : ℕ) → slice_index_or l.self-inside.leaves.items q Nothing ≡ slice_index_or l.initial.self-inside.leaves.items q Nothing;
  kept : l.self-inside.postings.items ≡ l.initial.self-inside.postings.items;
  long : vec_len l.self-inside.leaves ≡ l.counter;
  room : l.path < vec_capacity l.self-inside.leaves;
}
