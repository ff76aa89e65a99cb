-- What contracts see of a lock, a seat and a note, and what one turn does.
use Rattle.std.specs.Prelude.{◌≡◌, ℕ, List, [], ◌∷◌, ◌++◌, Option, Some, slice_get}
use mathlib.Core.List.{IsPrefix}
use Rattle.atomic_table.specs.Seated.{TableId}
use Rattle.jm_turn.specs.Lists.{entries_by}

-- which lock it is, and the fixed part of its value; no seat and no note of a lock lacks the second
pub record LockId (F : Type 0) : Type 0 where
  pub table : TableId
  pub fixed : Option F

-- a lock: how many seats it was made with, and the fixed part of its value
pub record LockModel (F : Type 0) : Type 0 where
  pub table : TableId
  pub seats : ℕ
  pub fixed : F

-- a seat: its lock, its number, and the list that it has seen
pub record SeatModel (E F : Type 0) : Type 0 where
  pub lock : LockId F
  pub number : ℕ
  pub seen : List E

-- a note: its lock, and the list that its seat had seen
pub record NoteModel (E F : Type 0) : Type 0 where
  pub lock : LockId F
  pub seen : List E

-- what its seats and notes know of the lock
abbrev pub id_of : {F : Type 0} → LockModel F → LockId F
id_of lock = record { table = lock.table; fixed = Some lock.fixed }

module _ {E F : Type 0} where
  -- the seat, and the note, is this lock's
  abbrev pub IsSeatOf : LockModel F → SeatModel E F → Type 0
  IsSeatOf lock seat = seat.lock ≡ id_of lock

  abbrev pub IsNoteOf : LockModel F → NoteModel E F → Type 0
  IsNoteOf lock note = note.lock ≡ id_of lock

  -- a seat of the lock that has seen nothing yet
  abbrev pub newcomer : LockModel F → ℕ → SeatModel E F
  newcomer lock n = record { lock = id_of lock; number = n; seen = [] }

  -- the seats are numbered from 0, and have seen nothing yet
  abbrev pub AreNewcomers : LockModel F → List (SeatModel E F) → Type 0
  AreNewcomers lock seats = (k : ℕ) (seat : SeatModel E F) → slice_get seats k ≡ Some seat → seat ≡ newcomer lock k

  -- a note of what the seat has seen
  abbrev pub note_of : SeatModel E F → NoteModel E F
  note_of seat = record { lock = seat.lock; seen = seat.seen }

  -- the seat's own entries: those of its number in what it has seen
  abbrev pub own_entries : (E → ℕ) → SeatModel E F → List E
  own_entries caller seat = entries_by caller seat.number seat.seen

-- both lists are prefixes of one
abbrev pub HaveOneHistory : {E : Type 0} → List E → List E → Type 0
HaveOneHistory {E} xs ys = (all : List E) × IsPrefix xs all × IsPrefix ys all

-- One turn. The act found a list that goes on from what the seat had seen, gave this answer, and left
-- the list with one entry more, the seat's. The seat has seen that list, and the entry is one more of its own
pub record TakesTurn {E F R : Type 0} (caller : E → ℕ) (relates : List E → R → List E
    → Type 0) (answer : R) (before after : SeatModel E F) : Type 0 where
  pub found : List E
  pub entry : E
  pub begins : IsPrefix before.seen found
  pub left : after.seen ≡ found ++ entry ∷ []
  pub related : relates found answer after.seen
  pub mine : caller entry ≡ before.number
  pub own : own_entries caller after ≡ own_entries caller before ++ entry ∷ []
