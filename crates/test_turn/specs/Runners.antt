-- What is said of the seats of a lock round a tally.
use Rattle.std.specs.Prelude.{◌≡◌, ℕ, ◌+◌}
use Rattle.jm_turn.specs.Seats.{LockModel, SeatModel, NoteModel, IsSeatOf, IsNoteOf}
use Rattle.test_turn.specs.Chains.{turns_of}

module _ {F : Type 0} where
  -- how many turns the seat had
  abbrev pub own_turns : SeatModel ℕ F → ℕ
  own_turns seat = turns_of seat.number seat.seen

  -- the seat, after so many turns more
  pub record HadTurns (before after : SeatModel ℕ F) (count : ℕ) : Type 0 where
    pub lock : after.lock ≡ before.lock
    pub number : after.number ≡ before.number
    pub turns : own_turns after ≡ own_turns before + count

  -- a seat of the lock, and a note that it is to hear
  abbrev pub IsRunnerOf : LockModel F → SeatModel ℕ F × NoteModel ℕ F → Type 0
  IsRunnerOf lock runner = IsSeatOf lock runner.0 × IsNoteOf lock runner.1
