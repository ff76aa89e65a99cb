use Rattle.std.proofs.Common.{◌≡◌, length}
use Rattle.jm_runner.specs.Notes.{HearBelow}
use Rattle.jm_runner.proofs.hearing.hear_all.Given as goal

abbrev pub invariant-loop-note : goal.invariant-loop-note
invariant-loop-note g l = record {
  place : l.s ≡ length l.yielded;
  heard : HearBelow l.s l.fn.notes.items l.fn.seats.items l.seats.items;
}
