use Rattle.std.proofs.Common.{◌≡◌, ℕ, Some, take}
use Rattle.std.specs.Vec.{vec_capacity}
use Rattle.std.specs.Prelude.{Contains}
use Rattle.jm_index.specs.Index.{Pair}
use Rattle.jm_index.specs.Layout.{pair_at}
use Rattle.jm_index.proofs.entry.add_live_slots.Given as goal

abbrev pub invariant-loop-position : goal.invariant-loop-position
invariant-loop-position l = record {
  kept : (k : ℕ) → Contains l.initial.slots.items k → Contains l.slots.items k;
  all : (k : ℕ) (pair : Pair) → Contains (take l.position-index l.positions) k → pair_at l.entries k ≡ Some pair → Contains l.slots.items pair.slot;
  room : vec_capacity l.slots ≡ vec_capacity l.initial.slots;
}
