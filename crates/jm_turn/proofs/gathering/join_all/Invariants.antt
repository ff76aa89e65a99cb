use Rattle.std.proofs.Common.{◌≡◌, false, Some, All, vec_len}
use Rattle.jm_turn.specs.Views.{given_part, seat_view}
use Rattle.jm_turn.specs.Seats.{IsSeatOf}
use Rattle.jm_turn.specs.TableSeats.{lock_over}
use Rattle.jm_turn.proofs.Gathered.{Gathers}
use Rattle.jm_turn.proofs.gathering.join_all.Given as goal

abbrev pub invariant-loop-seat : goal.invariant-loop-seat
invariant-loop-seat g l = record {
  table : l.all.table_id ≡ l.table.table_id;
  fixed : l.all.me.0.fixed ≡ Some (given_part g.V.Kept.fixed_part l.table.key);
  holder : l.all.me.0.holder ≡ false;
  each : All (λ s. IsSeatOf (lock_over g.V.Kept.fixed_part l.table) s) l.seats.items;
  gathered : Gathers (λ s. s.number) (λ s. seat_view s.number s.seen s.lock.fixed) l.fn.seats.items l.seats.items l.all.me.0;
}

abbrev pub decreases-loop-seat : goal.decreases-loop-seat
decreases-loop-seat g l = vec_len l.seats
