-- What shifts make of the monitors: what the moves of an event make of them.
use Rattle.std.proofs.Common.{◌≡◌, ◌≢◌, ℕ, ◌⊎◌, inl, inr, Bool, true, cond, List, [], ◌∷◌, length, refl, sym, ap, ◌∙◌, subst, arith}
use Rattle.std.specs.Prelude.{Option, Some, None, Contains, AllPairs, slice_set}
use Rattle.std.specs.List.{cons_option}
use Rattle.std.proofs.lemmas.Bool.{cases_eq}
use Rattle.std.proofs.lemmas.List.{get_or-set_same}
use Rattle.std.proofs.lemmas.Option.{same_Some}
use Rattle.jm_model.specs.Bindings.{is_below, mask_of}
use Rattle.jm_model.specs.Meanings.{Meaning, IsHit}
use Rattle.jm_model.specs.Numbers.{IsPlainMove}
use Rattle.jm_model.specs.declared.binding.Binding.{Binding}
use Rattle.jm_semantics.proofs.ListLemmas.{Contains-cons_cases, Contains-head}
use Rattle.jm_index.proofs.ReadLemmas.{Contains-none, Contains-cons}
use Rattle.jm_awake.specs.Awake.{Lists, list_at, card_at}
use Rattle.jm_awake.proofs.RestLemmas.{sound_along}
use Rattle.jm_marks.specs.Marks.{dead_mask_of}
use Rattle.jm_monitors.specs.declared.stored.Stored.{Stored}
use Rattle.jm_monitors.specs.Steps.{IsAliveState, IsOverAfter}
use Rattle.jm_store.specs.declared.moves.Move.{Move}
use Rattle.jm_store.specs.declared.walk.Shift.{Shift}
use Rattle.jm_store.specs.Slots.{monitor_at}
use Rattle.jm_store.specs.Moves.{AreGiven, ends_all, IsMoved, IsReadIn, IsReadAt, after_move, after_moves}
use Rattle.jm_store.specs.Listed.{occupant_of, occupant_for, occupants_of, RestsAt, AreListed}
use Rattle.jm_store.specs.Walks.{HaveMonitors, IsShifting, IsShiftAt, AreShifted}
use Rattle.jm_store.proofs.AfterLemmas.{moved_other, length-after}
use Rattle.jm_store.proofs.GivenLemmas.{given_each, given_pairs}
use Rattle.jm_store.proofs.ListedLemmas.{within, after_others}
use Rattle.jm_store.proofs.MoveLemmas.{join_above, compatible_above}

-- ---- the slots that shifts have
pub shift_or_none : (shifts : List Shift) (k : ℕ) → ((shift : Shift) × Contains shifts shift × (shift.slot ≡ k)) ⊎ ((shift : Shift) → Contains shifts shift → shift.slot ≡ k → ⊥)
shift_or_none [] k = inr (λ shift none. absurd (Contains-none shift none))
shift_or_none (y ∷ shifts) k = elim (cases_eq y.slot k) [
  | inl same ↦ inl (y, Contains-head y shifts, same)
  | inr other ↦ elim (shift_or_none shifts k) [
    | inl (shift, has, same) ↦ inl (shift, Contains-cons y shift shifts has, same)
    | inr none ↦ inr (λ shift has same. elim (Contains-cons_cases y shifts shift has) [
      | inl is ↦ other (ap (λ (s : Shift). s.slot) is ∙ same)
      | inr later ↦ none shift later same
    ])
  ]
]

module _ (m : Meaning) {S : Type 0} (Stands : S → List ℕ → Type 0) (HasNumber : S → ℕ → Type 0) (letter : ℕ) (dead : List Bool) (b : Binding) (ending : List ℕ) (lists : Lists) (monitors : List (Option (Stored S)))
    (slots : List ℕ) (shifts : List Shift) (given : AreGiven (IsShiftAt m Stands HasNumber letter dead b ending lists monitors) slots shifts) where
  -- no slot is shifted twice
  pub shifts_apart : AllPairs (λ j k. j ≢ k) slots → AllPairs (λ x y. x.slot ≢ y.slot) shifts
  shifts_apart apart =
      given_pairs (IsShiftAt m Stands HasNumber letter dead b ending lists monitors) (λ j k. j ≢ k) (λ x y. x.slot ≢ y.slot) slots shifts given apart
      (λ j k x y other mine its same. other (sym mine.2 ∙ same ∙ its.2))

  -- and each is of a slot that has a monitor
  pub shifts_there : HaveMonitors shifts monitors
  shifts_there shift has =
      let (k, among, (s, at, slot, is)) = given_each (IsShiftAt m Stands HasNumber letter dead b ending lists monitors) slots shifts shift given has in
      ((s, ap (monitor_at monitors) slot ∙ at), is.low)

  module _ (after : List (Option (Stored S))) (moved : AreShifted HasNumber shifts monitors after) where
    -- the monitor of a slot got another number
    pub record IsShiftedAt (k : ℕ) : Type 0 where
      pub base : Stored S
      pub here : monitor_at monitors k ≡ Some base
      pub number : ℕ
      pub is : IsShifting m Stands HasNumber letter dead b ending lists.letters (card_at lists k) base number
      pub next : Stored S
      pub now : monitor_at after k ≡ Some next
      pub instance : next.instance ≡ base.instance
      pub has : HasNumber next.state number

    shifted_of : (k : ℕ) (shift : Shift) → Contains shifts shift → IsShiftAt m Stands HasNumber letter dead b ending lists monitors k (Some shift) → IsShiftedAt k
    shifted_of k shift has (s, at, slot, is) =
        let (t, now, instance, number) = moved.each shift has s is.before (ap (monitor_at monitors) slot ∙ at) is.has in
        record {
          base = s;
          here = at;
          number = shift.number;
          is = is;
          next = t;
          now = sym (ap (monitor_at after) slot) ∙ now;
          instance = instance;
          has = number;
        }

    -- each slot's monitor got another number, or is as it was
    pub shift_at : (k : ℕ) → IsShiftedAt k ⊎ (monitor_at after k ≡ monitor_at monitors k)
    shift_at k = elim (shift_or_none shifts k) [
      | inl (shift, has, same) ↦
          let (j, among, is) = given_each (IsShiftAt m Stands HasNumber letter dead b ending lists monitors) slots shifts shift given has in
          inl (subst IsShiftedAt (sym is.2 ∙ same) (shifted_of j shift has is))
      | inr none ↦ inr (moved.others k none)
    ]

    -- ---- one that did has moved by the letter, and hits nothing
    plain : (k : ℕ) (x : IsShiftedAt k) → IsPlainMove S m Stands letter x.base.state x.next.state
    plain k x = x.is.moves x.next.state x.has

    abbrev pub move_to : ℕ → Stored S → Move S
    move_to k next = record { slot = Some k; monitor = next; stays = true }

    pub shift_moved : (marks : List Binding) (k : ℕ) (x : IsShiftedAt k) → IsMoved m Stands letter b dead marks k x.base (move_to k x.next)
    shift_moved marks k x =
        let below = x.is.below in
        let joined = join_above b x.base.instance (compatible_above b x.base.instance below) below in
        record {
          is_base = (compatible_above b x.base.instance below, inl below);
          advanced = record {
            slot = sym (ap (λ (v : Bool). cond v (Some k) None) below);
            instance = x.instance ∙ sym joined;
            next = (plain k x).leads;
            alive = λ yes. subst (IsAliveState m Stands x.next.state) (sym (ap (dead_mask_of dead) joined ∙ x.is.whole)) (plain k x).goes_on;
            cut = λ no. absurd cc;
          };
        }

    pub shift_quiet : (k : ℕ) (x : IsShiftedAt k) (w : List ℕ) → Stands x.next.state w → (h : ℕ) → IsHit m w h → ⊥
    shift_quiet k x = (plain k x).quiet

    -- ---- the lists tell of the monitors as before
    looks_same : (k : ℕ) → occupants_of after k ≡ occupants_of monitors k
    looks_same k = elim (shift_at k) [
      | inl x ↦ ap occupant_of x.now ∙ ap (λ (t : Binding). Some (occupant_for t)) x.instance ∙ sym (ap occupant_of x.here)
      | inr same ↦ ap occupant_of same
    ]

    pub shifts_listed : AreListed m Stands dead monitors lists → AreListed m Stands dead after lists
    shifts_listed listed = record {
      sound = sound_along None (occupants_of monitors) (occupants_of after) lists looks_same listed.sound;
      rested = λ place k x kept at below. elim (shift_at k) [
        | inl shifted ↦ inl (shifted.is.on (list_at lists place).letter (listed.sound.found place kept).has_letter)
        | inr same ↦ elim (listed.rested place k x kept (sym (looks_same k) ∙ at) below) [
          | inl on ↦ inl on
          | inr rests ↦ inr (subst (RestsAt m Stands dead (list_at lists place).letter) (sym same) rests)
        ]
      ];
    }

    -- ---- moves that make the same of the monitors
    -- the move of a slot's monitor that got another number
    abbrev IsMove : Move S → Type 0
    IsMove move = (k : ℕ) × (x : IsShiftedAt k) × (move ≡ move_to k x.next)

    record AreMoves (marks : List Binding) (xs : List ℕ) (ys : List Shift) (moves : List (Move S)) : Type 0 where
      read : AreGiven (IsReadAt m Stands letter b dead marks monitors) xs moves
      each : (move : Move S) → Contains moves move → IsMove move
      all : (shift : Shift) → Contains ys shift → (move : Move S) × Contains moves move × (move.slot ≡ Some shift.slot)

    moves_for : (marks : List Binding) (xs : List ℕ) (ys : List Shift) → AreGiven (IsShiftAt m Stands HasNumber letter dead b ending lists monitors) xs ys → ((y : Shift) → Contains ys y → Contains shifts y)
        → (moves : List (Move S)) × AreMoves marks xs ys moves
    moves_for marks [] ys none within =
        ([], record { read = refl; each = λ move has. absurd (Contains-none move has); all = λ shift has. absurd (Contains-none shift (subst (λ (l : List Shift). Contains l shift) none has)) })
    moves_for marks (k ∷ xs) ys (o, gives, (rest, given, is)) within = by o gives is (λ inside. moves_for marks xs rest given inside)
      where
        by : (p : Option Shift) → IsShiftAt m Stands HasNumber letter dead b ending lists monitors k p → ys ≡ cons_option p rest → (((y : Shift) → Contains rest y → Contains shifts y) → (moves : List (Move S)) × AreMoves marks xs rest moves)
            → (moves : List (Move S)) × AreMoves marks (k ∷ xs) ys moves
        by None (s, at, resting) same more =
            let (moves, are) = more (λ y has. within y (subst (λ (l : List Shift). Contains l y) (sym same) has)) in (
              moves,
              record {
                read = (None, subst (λ (v : Option (Stored S)). IsReadIn m Stands letter b dead marks k v None) (sym at) (inr resting), (moves, are.read, refl));
                each = are.each;
                all = λ shift has. are.all shift (subst (λ (l : List Shift). Contains l shift) same has);
              },
            )
        by (Some shift) gives same more =
            let head : Contains ys shift = subst (λ (l : List Shift). Contains l shift) (sym same) (Contains-head shift rest) in
            let x = shifted_of k shift (within shift head) gives in
            let move = move_to k x.next in
            let (moves, are) = more (λ y has. within y (subst (λ (l : List Shift). Contains l y) (sym same) (Contains-cons shift y rest has))) in (
              move ∷ moves,
              record {
                read = (Some move, subst (λ (v : Option (Stored S)). IsReadIn m Stands letter b dead marks k v (Some move)) (sym x.here) (shift_moved marks k x), (moves, are.read, refl));
                each = λ y has. elim (Contains-cons_cases move moves y has) [ inl is' ↦ (k, x, sym is') | inr later ↦ are.each y later ];
                all = λ y has. elim (Contains-cons_cases shift rest y (subst (λ (l : List Shift). Contains l y) same has)) [
                  | inl is' ↦ (move, Contains-head move moves, ap (λ (n : ℕ). Some n) (sym gives.2 ∙ ap (λ (z : Shift). z.slot) is'))
                  | inr later ↦ let (z, among, slot) = are.all y later in (z, Contains-cons move z moves among, slot)
                ];
              },
            )

    -- after the moves a slot that one has is as after the shifts
    slot_after : (moves : List (Move S)) → ((move : Move S) → Contains moves move → IsMove move) → (k : ℕ)
        → (monitor_at (after_moves moves monitors) k ≡ monitor_at after k) ⊎ ((move : Move S) → Contains moves move → move.slot ≡ Some k → ⊥)
    slot_after [] each k = inr (λ move has. absurd (Contains-none move has))
    slot_after (y ∷ moves) each k =
        by (each y (Contains-head y moves)) (slot_after moves (λ move has. each move (Contains-cons y move moves has)) k)
      where
        rest : List (Option (Stored S))
        rest = after_moves moves monitors

        by : IsMove y → (monitor_at rest k ≡ monitor_at after k) ⊎ ((move : Move S) → Contains moves move → move.slot ≡ Some k → ⊥)
            → (monitor_at (after_move y rest) k ≡ monitor_at after k) ⊎ ((move : Move S) → Contains (y ∷ moves) move → move.slot ≡ Some k → ⊥)
        by (j, x, is) below = elim (cases_eq k j) [
          | inl same ↦
              let size : length rest ≡ length monitors = length-after moves monitors in
              let low = within j x.base monitors x.here in
              inl (ap (λ (z : Move S). monitor_at (after_move z rest) k) is ∙ ap (monitor_at (slice_set rest j (Some x.next))) same
              ∙ get_or-set_same rest j (Some x.next) None (omega (arith, size, low)) ∙ sym x.now ∙ sym (ap (monitor_at after) same))
          | inr other ↦
              let apart : y.slot ≡ Some k → ⊥ = λ (at : y.slot ≡ Some k). other (sym (same_Some j k (sym (ap (λ (z : Move S). z.slot) is) ∙ at))) in
              elim below [
                | inl there ↦ inl (moved_other y.slot (cond y.stays (Some y.monitor) None) rest k apart ∙ there)
                | inr none ↦ inr (λ move has slot. elim (Contains-cons_cases y moves move has) [
                  | inl is' ↦ apart (ap (λ (z : Move S). z.slot) is' ∙ slot)
                  | inr later ↦ none move later slot
                ])
              ]
        ]

    -- The shifts make of the monitors what these moves make of them. Each move's monitor stays, hits nothing, and the letters
    -- that end all with its parameters end it.
    pub record IsMadeBy (marks : List Binding) (moves : List (Move S)) : Type 0 where
      pub read : AreGiven (IsReadAt m Stands letter b dead marks monitors) slots moves
      pub same : (k : ℕ) → monitor_at (after_moves moves monitors) k ≡ monitor_at after k
      pub stays : (move : Move S) → Contains moves move → move.stays ≡ true
      pub quiet : (move : Move S) → Contains moves move → (w : List ℕ) → Stands move.monitor.state w → (h : ℕ) → IsHit m w h → ⊥
      pub over : (move : Move S) → Contains moves move → (e : ℕ) → ends_all ending e (mask_of move.monitor.instance) ≡ true → IsOverAfter m Stands e move.monitor.state 0
      pub from : (move : Move S) → Contains moves move → (k : ℕ) × (s : Stored S) × (monitor_at monitors k ≡ Some s) × (is_below b s.instance ≡ true) × (move.slot ≡ Some k) × (move.monitor.instance ≡ s.instance)

    pub shifts_as_moves : (marks : List Binding) → (moves : List (Move S)) × IsMadeBy marks moves
    shifts_as_moves marks =
        let (moves, are) = moves_for marks slots shifts given (λ y has. has) in (
          moves,
          record {
            read = are.read;
            same = λ k. elim (slot_after moves are.each k) [
              | inl there ↦ there
              | inr none ↦ elim (shift_or_none shifts k) [
                | inl (shift, has, slot) ↦
                    let (move, among, at) = are.all shift has in
                    absurd (none move among (at ∙ ap (λ (n : ℕ). Some n) slot))
                | inr absent ↦ after_others moves monitors k none ∙ sym (moved.others k absent)
              ]
            ];
            stays = λ move has. let (k, x, is) = are.each move has in ap (λ (z : Move S). z.stays) is;
            quiet = λ move has. let (k, x, is) = are.each move has in subst (λ (z : Move S). (w : List ℕ) → Stands z.monitor.state w → (h : ℕ) → IsHit m w h → ⊥) (sym is) (shift_quiet k x);
            over = λ move has. let (k, x, is) = are.each move has in
                subst (λ (z : Move S). (e : ℕ) → ends_all ending e (mask_of z.monitor.instance) ≡ true → IsOverAfter m Stands e z.monitor.state 0) (sym is)
                (λ e ends. x.is.over x.next.state x.has e (subst (λ (t : Binding). ends_all ending e (mask_of t) ≡ true) x.instance ends));
            from = λ move has. let (k, x, is) = are.each move has in (k, x.base, x.here, x.is.below, ap (λ (z : Move S). z.slot) is, ap (λ (z : Move S). z.monitor.instance) is ∙ x.instance);
          },
        )
