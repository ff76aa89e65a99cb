use Rattle.std.proofs.Common.{◌≡◌, length}
use Rattle.jm_coenable.specs.Rounds.{room_of, AreArrivals}
use Rattle.jm_coenable.proofs.arrivals.last_letters.Given as goal

abbrev pub invariant-loop : goal.invariant-loop
invariant-loop l = record {
  count : length l.arrivals.items ≡ l.table.states;
  sound : AreArrivals l.table l.goal l.arrivals.items;
}

abbrev pub decreases-loop : goal.decreases-loop
decreases-loop l = room_of l.arrivals.items
