use Rattle.std.proofs.Common.{◌≡◌, All, length, vec_len}
use Rattle.jm_turn.specs.Seats.{IsNoteOf}
use Rattle.test_turn.specs.Runners.{IsRunnerOf}
use Rattle.test_turn.proofs.rounds.passed_round.Given as goal

abbrev pub invariant-loop-seat : goal.invariant-loop-seat
invariant-loop-seat l = record {
  count : vec_len l.runners ≡ length l.yielded;
  note : IsNoteOf l.lock l.note;
  each : All (λ r. IsRunnerOf l.lock r) l.runners.items;
}
