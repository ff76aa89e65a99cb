use Rattle.std.proofs.Common.{◌≡◌, All, length, vec_len}
use Rattle.jm_turn.specs.Seats.{IsSeatOf}
use Rattle.test_turn.proofs.rounds.all_back.Given as goal

abbrev pub invariant-loop-seat : goal.invariant-loop-seat
invariant-loop-seat l = record {
  count : vec_len l.seats ≡ length l.yielded;
  each : All (λ s. IsSeatOf l.lock s) l.seats.items;
}
