use Rattle.std.proofs.Common.{◌≡◌, ℕ, ◌*◌, ◌/◌, ◌<◌, ◌≤◌}
use Rattle.std.specs.Vec.{vec_capacity}
use Rattle.std.specs.Prelude.{Contains}
use Rattle.jm_index.specs.Index.{HasDied, AreListed}
use Rattle.jm_index.proofs.index.Index.add_slots_of_dead_in.Given as goal

abbrev pub invariant-loop-index : goal.invariant-loop-index
invariant-loop-index l = record {
  kept : (k : ℕ) → Contains l.initial.slots.items k → Contains l.slots.items k;
  all : AreListed l.self (λ o. (64 * l.fn.block ≤ o / 64) × (o / 64 < l.index) × HasDied l.self l.objects o) l.slots.items;
  room : vec_capacity l.slots ≡ vec_capacity l.initial.slots;
}
