-- What the lock's own functions say of the table's seats.
use Rattle.std.specs.Prelude.{◌≡◌, ℕ, ◌%◌, ◌^◌, ◌<◌, List, [], ◌∷◌, ◌++◌, Option, Some, ◌⊎◌, slice_get}
use mathlib.Core.List.{IsPrefix}
use Rattle.atomic_table.specs.Seated.{TableId}
use Rattle.atomic_table.specs.Table.{Me}
use Rattle.atomic_table.specs.declared.shared.Seat.{Seat}
use Rattle.atomic_table.specs.declared.shared.Shared.{Shared}
use Rattle.jm_turn.specs.declared.rule.Given.{Given}
use Rattle.jm_turn.specs.declared.rule.View.{View}
use Rattle.jm_turn.specs.declared.rule.Joined.{Joined}
use Rattle.jm_turn.specs.Lists.{times, entries_by}
use Rattle.jm_turn.specs.Seats.{LockModel, SeatModel, NoteModel}
use Rattle.jm_turn.specs.Views.{given_part, seat_view, note_view, idle_seat, waiting_seat, holding_seat, maker, news, with_ticket, without_turn, numbers_in}

-- the lock over this table
abbrev pub lock_over : {V E F P : Type 0} → (V → F) → Shared (Option V) (View E F) (Given V) P → LockModel F
lock_over part table = record { table = table.table_id; seats = table.key.seats; fixed = given_part part table.key }

-- the seat of this number, and the note, over this seat of the table
abbrev pub seat_over : {V E F : Type 0} → ℕ → Seat (Option V) (View E F) → SeatModel E F
seat_over n p = record { lock = record { table = p.table_id; fixed = p.me.0.fixed }; number = n; seen = p.me.0.seen }

abbrev pub note_over : {V E F : Type 0} → Seat (Option V) (View E F) → NoteModel E F
note_over p = record { lock = record { table = p.table_id; fixed = p.me.0.fixed }; seen = p.me.0.seen }

-- three words and one slot
abbrev pub IsShaped : TableId → Type 0
IsShaped z = (z.words ≡ 3) × (z.slots ≡ 1)

module _ {V E F : Type 0} where
  -- a seat with this number, and a note, that hold no slot
  abbrev pub IsSeatAtRest : ℕ → Me (Option V) (View E F) → Type 0
  IsSeatAtRest n me = me ≡ (seat_view n me.0.seen me.0.fixed, [])

  abbrev pub IsNoteAtRest : Me (Option V) (View E F) → Type 0
  IsNoteAtRest me = me ≡ (note_view me.0.seen me.0.fixed, [])

  -- it is the same seat of the same table
  abbrev pub IsSameSeat : Seat (Option V) (View E F) → Seat (Option V) (View E F) → Type 0
  IsSameSeat p q = (q.table_id ≡ p.table_id) × (q.id ≡ p.id)

  -- a seat of the lock that does nothing just now
  abbrev pub IsIdle : LockModel F → Seat (Option V) (View E F) → Type 0
  IsIdle lock p = (p.table_id ≡ lock.table) × ((n : ℕ) × (p.me ≡ (idle_seat n p.me.0.seen lock.fixed, [])))

  -- a seat of the lock that waits with a ticket, which is r modulo 2 ^ 64
  abbrev pub IsWaiting : LockModel F → ℕ → Seat (Option V) (View E F) → Type 0
  IsWaiting lock r p =
      (p.table_id ≡ lock.table)
      × ((n : ℕ) × (t : ℕ) × (t % 2 ^ 64 ≡ r) × (p.me ≡ (waiting_seat n t p.me.0.seen lock.fixed, [])))

  -- a seat without a number: so many seats are still to be numbered, itself among them, from `next` on
  abbrev pub IsMaker : LockModel F → ℕ → ℕ → Seat (Option V) (View E F) → Type 0
  IsMaker lock unnumbered next p = (p.table_id ≡ lock.table) × (p.me ≡ (maker unnumbered next lock.fixed, []))

  -- news that so many seats have a number
  abbrev pub IsNews : LockModel F → ℕ → Seat (Option V) (View E F) → Type 0
  IsNews lock n p = (p.table_id ≡ lock.table) × (p.me ≡ (news n lock.fixed, []))

  -- the seat has drawn a ticket, which is r modulo 2 ^ 64
  abbrev pub HasDrawn : ℕ → Me (Option V) (View E F) → Me (Option V) (View E F) → Type 0
  HasDrawn r m m' = (t : ℕ) × (t % 2 ^ 64 ≡ r) × (m' ≡ (with_ticket t m.0, []))

  -- the seat holds the value y
  abbrev pub HoldsValue : Me (Option V) (View E F) → V → Type 0
  HoldsValue m y = m.1 ≡ (0, Some y) ∷ []

  -- the holder has given back the value that it held, and has seen its list
  abbrev pub HasPassedOn : (V → List E) → Me (Option V) (View E F) → Me (Option V) (View E F) → Type 0
  HasPassedOn entries m m' = (y : V) → HoldsValue m y → m' ≡ (without_turn (entries y) m.0, [])

module _ {V E F : Type 0} (entries : V → List E) (caller : E → ℕ) (part : V → F) where
  -- an act of the number n gave the answer, and changed the value that the seat holds: its list has one entry more
  pub record HasRun {R : Type 0} (n : ℕ) (relates : F → List E → R → List E
      → Type 0) (answer : R) (m m' : Me (Option V) (View E F)) : Type 0 where
    pub before : V
    pub after : V
    pub entry : E
    pub held : HoldsValue m before
    pub holds : m' ≡ (m.0, (0, Some after) ∷ [])
    pub longer : entries after ≡ entries before ++ entry ∷ []
    pub mine : caller entry ≡ n
    pub fixed : part after ≡ part before
    pub related : relates (part before) (entries before) answer (entries after)

  -- a holder whose value has one entry of its number more than it had seen
  pub record HasActed (lock : LockModel F) (p : Seat (Option V) (View E F)) : Type 0 where
    pub number : ℕ
    pub ticket : ℕ
    pub entry : E
    pub value : V
    pub table : p.table_id ≡ lock.table
    pub holds : p.me ≡ (holding_seat number ticket p.me.0.seen lock.fixed, (0, Some value) ∷ [])
    pub longer : entries value ≡ p.me.0.seen ++ entry ∷ []
    pub mine : caller entry ≡ number
    pub fixed : part value ≡ lock.fixed

-- a seat of this number, which had seen this, is among those that were joined in
abbrev pub HasJoined : {E : Type 0} → List (Joined E) → ℕ → List E → Type 0
HasJoined [] n seen = ⊥
HasJoined (j ∷ js) n seen = ((j.number ≡ Some n) × (j.seen ≡ seen)) ⊎ HasJoined js n seen

-- the same, or it is the view's own
abbrev pub IsRecorded : {E F : Type 0} → View E F → ℕ → List E → Type 0
IsRecorded v n seen = ((v.number ≡ Some n) × (v.seen ≡ seen)) ⊎ HasJoined v.joined n seen

-- The value of a lock whose seats are all joined into one: its list goes on from what each had seen,
-- with no further entry of that number, and has no entry of a number that none of them had
pub record IsValueOf {V E F : Type 0} (entries : V → List E) (caller : E → ℕ) (part : V
    → F) (f : F) (all : View E F) (value : V) : Type 0 where
  pub fixed : part value ≡ f
  pub seen : (n : ℕ) (seen : List E) → IsRecorded all n seen → IsPrefix seen (entries value)
  pub own : (n : ℕ) (seen : List E) → IsRecorded all n seen
      → entries_by caller n (entries value) ≡ entries_by caller n seen
  pub known : (i : ℕ) (e : E) → slice_get (entries value) i ≡ Some e → 0 < times (caller e) (numbers_in all)
