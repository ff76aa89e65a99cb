use Rattle.std.proofs.Common.{◌≡◌, ℕ, ◌+◌, ◌<◌, Some}
use Rattle.std.specs.Vec.{vec_capacity}
use Rattle.std.specs.Prelude.{Contains}
use Rattle.jm_index.specs.Index.{Pair}
use Rattle.jm_index.specs.Layout.{pair_at, posting_at}
use Rattle.jm_index.proofs.index.Index.add_slots_of.Given as goal

abbrev pub invariant-loop-tree : goal.invariant-loop-tree
invariant-loop-tree l = record {
  kept : (k : ℕ) → Contains l.initial.slots.items k → Contains l.slots.items k;
  all : (m k : ℕ) (pair : Pair) → m < l.tree → Contains (posting_at l.self-inside.trees m (l.object + 1)) k → pair_at l.entries k ≡ Some pair → Contains l.slots.items pair.slot;
  room : vec_capacity l.slots ≡ vec_capacity l.initial.slots;
}
