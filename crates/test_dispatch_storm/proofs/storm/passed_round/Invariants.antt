use Rattle.std.proofs.Common.{◌≡◌, All, length, vec_len}
use Rattle.jm_turn.specs.Seats.{IsNoteOf}
use Rattle.test_dispatch_storm.specs.Runners.{IsRunnerOf}
use Rattle.test_dispatch_storm.proofs.storm.passed_round.Given as goal

abbrev pub invariant-loop-seat : goal.invariant-loop-seat
invariant-loop-seat g l = record {
  count : vec_len l.runners ≡ length l.yielded;
  note : IsNoteOf l.watch l.note;
  each : All (λ r. IsRunnerOf l.watch r) l.runners.items;
}
