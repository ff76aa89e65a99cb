-- The steps of one turn, put together.
use Rattle.std.proofs.Common.{◌≡◌, ℕ, List, [], ◌∷◌, ◌++◌, Option, Some, sym, ap, ◌∙◌}
use Rattle.atomic_table.specs.Table.{Me}
use Rattle.atomic_table.specs.declared.shared.Seat.{Seat}
use Rattle.jm_turn.specs.declared.rule.View.{View}
use Rattle.jm_turn.specs.Views.{idle_seat, with_ticket, with_turn, waiting_seat, holding_seat, seat_view, note_view, plain_note}
use Rattle.jm_turn.specs.Steps.{TurnComes}
use Rattle.jm_turn.specs.TableSeats.{IsSeatAtRest, HasRun, HasActed}
use Rattle.jm_turn.specs.Seats.{LockId, SeatModel, LockModel, NoteModel, id_of, IsSeatOf, IsNoteOf}
use Rattle.atomic_table.specs.Seated.{TableId}
use Rattle.jm_turn.proofs.TurnSteps.{first_value}

module _ {V E F : Type 0} (entries : V → List E) (caller : E → ℕ) (part : V → F) (n t : ℕ) (f : F) where
  pub with_seen : (me : Me (Option V) (View E F)) (h : List E) → me ≡ (waiting_seat n t h f, []) → me ≡ (waiting_seat n t me.0.seen f, [])
  with_seen me h e = e ∙ ap (λ (l : List E). (waiting_seat n t l f, [])) (sym (ap (λ (m : Me (Option V) (View E F)). m.0.seen) e))

  pub drew : (me me1 : Me (Option V) (View E F)) → me ≡ (idle_seat n me.0.seen f, []) → me1 ≡ (with_ticket t me.0, []) → me1 ≡ (waiting_seat n t me.0.seen f, [])
  drew me me1 e d = d ∙ ap (λ (m : Me (Option V) (View E F)). (with_ticket t m.0, [])) e

  pub came : (me me1 me2 : Me (Option V) (View E F)) → me ≡ (idle_seat n me.0.seen f, []) → me1 ≡ (with_ticket t me.0, []) → (c : TurnComes entries caller part me1 me2) → (me2 ≡ (holding_seat n t (entries c.0) f, (0, Some c.0) ∷ [])) × (part c.0 ≡ f)
  came me me1 me2 e d c = let one = drew me me1 e d in
      (c.1 ∙ ap (λ (m : Me (Option V) (View E F)). (with_turn (entries c.0) m.0, (0, Some c.0) ∷ m.1)) one, c.3 f (ap (λ (m : Me (Option V) (View E F)). m.0.fixed) one))

  -- after the act the seat can pass the turn on
  module _ {R : Type 0} (relates : F → List E → R → List E → Type 0) (answer : R) (k : ℕ) (me me1 me2 me3 : Me (Option V) (View E F)) (e : me ≡ (idle_seat n me.0.seen f, [])) (d : me1 ≡ (with_ticket t me.0, []))
      (c : TurnComes entries caller part me1 me2) (same : k ≡ n) (ran : HasRun entries caller part k relates answer me2 me3) where
    is_value : c.0 ≡ ran.before
    is_value = ap (first_value c.0) (sym (ap (λ (m : Me (Option V) (View E F)). m.1) (came me me1 me2 e d c).0) ∙ ran.held)

    held : me3 ≡ (holding_seat n t (entries ran.before) f, (0, Some ran.after) ∷ [])
    held = ran.holds ∙ ap (λ (m : Me (Option V) (View E F)). (m.0, (0, Some ran.after) ∷ [])) (came me me1 me2 e d c).0 ∙ ap (λ (z : V). (holding_seat n t (entries z) f, (0, Some ran.after) ∷ [])) is_value

    pub acts : (lock : LockModel F) (p : Seat (Option V) (View E F)) → p.me ≡ me3 → p.table_id ≡ lock.table → lock.fixed ≡ f → HasActed entries caller part lock p
    acts lock p is table fixed =
        let seen : me3.0.seen ≡ entries ran.before = ap (λ (m : Me (Option V) (View E F)). m.0.seen) held in
        let whole : me3 ≡ (holding_seat n t me3.0.seen f, (0, Some ran.after) ∷ []) = held ∙ ap (λ (l : List E). (holding_seat n t l f, (0, Some ran.after) ∷ [])) (sym seen) in
        record {
          number = n;
          ticket = t;
          entry = ran.entry;
          value = ran.after;
          table = table;
          holds = is ∙ (whole ∙ (λ i. (holding_seat n t (sym is i).0.seen (sym fixed i), (0, Some ran.after) ∷ [])));
          longer = ran.longer ∙ ap (λ (l : List E). l ++ ran.entry ∷ []) (sym seen ∙ ap (λ (m : Me (Option V) (View E F)). m.0.seen) (sym is));
          mine = ran.mine ∙ same;
          fixed = ran.fixed ∙ (ap part (sym is_value) ∙ ((came me me1 me2 e d c).1 ∙ sym fixed));
        }

-- a seat of a lock that was opened
pub opens : {V E F : Type 0} (n : ℕ) (me : Me (Option V) (View E F)) (z y : TableId) (m : ℕ) (f : F) (seat : SeatModel E F) (lock : LockModel F) → IsSeatAtRest n me
    → ◌≡◌ {A = SeatModel E F} (record { lock = record { table = z; fixed = me.0.fixed }; number = n; seen = me.0.seen }) seat → ◌≡◌ {A = LockModel F} (record { table = y; seats = m; fixed = f }) lock → IsSeatOf lock seat
    → (z ≡ y) × (me ≡ (idle_seat n me.0.seen f, []))
opens {V} {E} {F} n me z y m f seat lock idle seat_is lock_is of =
    let same : ◌≡◌ {A = LockId F} (record { table = z; fixed = me.0.fixed }) (record { table = y; fixed = Some f }) = ap (λ (v : SeatModel E F). v.lock) seat_is ∙ (of ∙ ap id_of (sym lock_is)) in
    (ap (λ (l : LockId F). l.table) same, idle ∙ ap (λ (l : LockId F). (seat_view n me.0.seen l.fixed, [])) same)

-- and a note
pub opens_note : {V E F : Type 0} (me : Me (Option V) (View E F)) (z y : TableId) (m : ℕ) (f : F) (note : NoteModel E F) (lock : LockModel F) → z ≡ note.lock.table → me ≡ (note_view note.seen note.lock.fixed, [])
    → ◌≡◌ {A = LockModel F} (record { table = y; seats = m; fixed = f }) lock → IsNoteOf lock note
    → (z ≡ y) × (me ≡ (plain_note me.0.seen f, [])) × (me.0.seen ≡ note.seen)
opens_note {V} {E} {F} me z y m f note lock at idle lock_is of =
    let same : note.lock ≡ record { table = y; fixed = Some f } = of ∙ ap id_of (sym lock_is) in
    let seen : me.0.seen ≡ note.seen = ap (λ (x : Me (Option V) (View E F)). x.0.seen) idle in
    (at ∙ ap (λ (l : LockId F). l.table) same, idle ∙ (λ i. (note_view (sym seen i) (same i).fixed, [])), seen)
