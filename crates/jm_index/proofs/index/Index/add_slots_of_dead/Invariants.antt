use Rattle.std.proofs.Common.{◌≡◌, ◌/◌, ◌<◌}
use Rattle.std.specs.Vec.{vec_capacity}
use Rattle.jm_index.specs.Index.{HasDied, AreListed}
use Rattle.jm_index.proofs.index.Index.add_slots_of_dead.Given as goal

abbrev pub invariant-loop-block : goal.invariant-loop-block
invariant-loop-block l = record {
  all : AreListed l.self (λ o. (o / 4096 < l.block) × HasDied l.self l.objects o) l.slots.items;
  room : vec_capacity l.slots ≡ vec_capacity l.initial.slots;
}
