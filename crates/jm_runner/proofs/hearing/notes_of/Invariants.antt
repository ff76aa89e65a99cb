use Rattle.std.proofs.Common.{◌≡◌, map, take}
use Rattle.jm_turn.specs.Seats.{note_of}
use Rattle.jm_runner.proofs.hearing.notes_of.Given as goal

abbrev pub invariant-loop-s : goal.invariant-loop-s
invariant-loop-s g l = record {
  notes : l.notes.items ≡ map note_of (take l.s l.fn.seats.items);
  same : l.seats.items ≡ l.fn.seats.items;
}
