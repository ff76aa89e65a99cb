use Rattle.std.specs.Prelude.{IfSome}
use Rattle.jm_turn.specs.Seats.{IsNoteOf, IsSeatOf}
use Rattle.test_dispatch.proofs.rig.all_told.Given as goal

abbrev pub invariant-loop-word : goal.invariant-loop-word
invariant-loop-word g l = record {
  first : IsSeatOf l.watch l.first;
  second : IsSeatOf l.watch l.second;
  note : IfSome l.note (λ n. IsNoteOf l.watch n);
}
