use Rattle.std.proofs.Common.{◌≡◌, All, vec_len}
use Rattle.jm_turn.specs.Seats.{IsSeatOf}
use Rattle.test_dispatch_storm.proofs.storm.all_rounds.Given as goal

abbrev pub invariant-loop-steps : goal.invariant-loop-steps
invariant-loop-steps g l = record {
  count : vec_len l.seats ≡ vec_len l.fn.seats;
  each : All (λ s. IsSeatOf l.watch s) l.seats.items;
}
