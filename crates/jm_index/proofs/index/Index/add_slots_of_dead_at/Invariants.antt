use Rattle.std.proofs.Common.{ℕ, ◌≡◌, ◌/◌, ◌%◌}
use Rattle.std.specs.Vec.{vec_capacity}
use Rattle.std.specs.Prelude.{Contains}
use Rattle.std.specs.Int.{bit_at}
use Rattle.jm_index.specs.Index.{HasDied, AreListed}
use Rattle.jm_index.proofs.index.Index.add_slots_of_dead_at.Given as goal

abbrev pub invariant-loop-left : goal.invariant-loop-left
invariant-loop-left l = record {
  kept : (k : ℕ) → Contains l.initial.slots.items k → Contains l.slots.items k;
  all : AreListed l.self (λ o. (o / 64 ≡ l.fn.index) × (bit_at l.left (o % 64) ≡ 0) × HasDied l.self l.objects o) l.slots.items;
  room : vec_capacity l.slots ≡ vec_capacity l.initial.slots;
}

abbrev pub decreases-loop-left : goal.decreases-loop-left
decreases-loop-left l = l.left
