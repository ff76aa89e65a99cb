use Rattle.std.proofs.Common.{◌≡◌, ◌-◌, ◌≤◌, vec_len, vec_capacity}
use Rattle.jm_turn.specs.TableSeats.{IsMaker, lock_over}
use Rattle.jm_turn.specs.Seats.{AreNewcomers}
use Rattle.jm_turn.proofs.seating.make_seats.Given as goal

abbrev pub invariant-loop-made : goal.invariant-loop-made
invariant-loop-made g l = record {
  maker : IsMaker (lock_over g.V.Kept.fixed_part l.table) (l.seats - l.made) l.made l.first;
  count : vec_len l.all ≡ l.made;
  room : l.seats ≤ vec_capacity l.all;
  newcomers : AreNewcomers (lock_over g.V.Kept.fixed_part l.table) l.all.items;
}
