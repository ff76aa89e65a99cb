use Rattle.std.proofs.Common.{◌≡◌, All, vec_len}
use Rattle.jm_turn.specs.Seats.{IsSeatOf}
use Rattle.test_turn.proofs.rounds.all_rounds.Given as goal

abbrev pub invariant-loop-round : goal.invariant-loop-round
invariant-loop-round g l = record {
  count : vec_len l.seats ≡ vec_len l.fn.seats;
  each : All (λ s. IsSeatOf l.lock s) l.seats.items;
}
