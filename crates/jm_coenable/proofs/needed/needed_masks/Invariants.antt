use Rattle.std.proofs.Common.{◌≡◌, length}
use Rattle.jm_coenable.specs.Rounds.{room_of, AreNeeded}
use Rattle.jm_coenable.proofs.needed.needed_masks.Given as goal

abbrev pub invariant-loop : goal.invariant-loop
invariant-loop l = record {
  count : length l.needed.items ≡ l.table.states;
  sound : AreNeeded l.table l.goal l.events l.needed.items;
}

abbrev pub decreases-loop : goal.decreases-loop
decreases-loop l = room_of l.needed.items
