-- Monitors of a list that are read by their numbers, and get other numbers.
use Rattle.std.proofs.Common.{◌≡◌, ◌≢◌, ℕ, zero, suc, ◌+◌, ◌-◌, ◌/◌, ◌%◌, ◌^◌, ◌<◌, ◌⊎◌, inl, inr, Bool, true, false, List, [], ◌∷◌, ◌++◌, length, take, drop, get_or, replicate, refl, sym, ap, ◌∙◌, subst, append-nil, arith}
use Rattle.std.specs.Prelude.{Option, Some, None, Contains, AllPairs, slice_get, slice_index, slice_index_or, slice_set, bit_and, ◌==◌, ◌&&◌}
use Rattle.std.specs.Int.{w8, w32, bit_at, trailing_zeros}
use Rattle.std.proofs.lemmas.Bool.{cases_eq, cases_lt, lt-ltb}
use Rattle.std.proofs.lemmas.List.{get_or_default, get_or-take, get_or_past, drop_all, length-map, length-take-le, set-get_or, take_all, take_more}
use Rattle.std.proofs.lemmas.List.Elements.{Contains-push_cases, Contains-append_left, Contains-push}
use Rattle.std.proofs.lemmas.Option.{same_Some, get_or_from_slice_get}
use Rattle.std.proofs.lemmas.Nat.Bits.{bit_at_above, bit_at_and, bit_at_not, bit_at-lt}
use Rattle.jm_model.specs.Bindings.{is_below, object_at, mask_of, mask_where}
use Rattle.jm_model.specs.Meanings.{Meaning, IsCutWord}
use Rattle.jm_model.specs.Numbers.{at_rest, IsAtRest as RestsBy, AreEnds}
use Rattle.jm_model.specs.declared.binding.Binding.{Binding}
use Rattle.jm_semantics.proofs.BindingLemmas.{below-object}
use Rattle.jm_index.specs.Index.{AreLive, flag_of}
use Rattle.jm_index.proofs.ReadLemmas.{Contains-none}
use Rattle.jm_awake.specs.declared.card.Card.{Card}
use Rattle.jm_awake.specs.declared.card.Listed.{Listed}
use Rattle.jm_awake.specs.Awake.{fresh, is_there, IsOn}
use Rattle.jm_awake.proofs.CardLemmas.{first_left}
use Rattle.jm_awake.proofs.PathLemmas.{bound_one, unbound_zero}
use Rattle.jm_marks.specs.Marks.{dead_mask_of, is_dead_object}
use Rattle.jm_monitors.specs.declared.stored.Stored.{Stored}
use Rattle.jm_monitors.specs.Steps.{IsOverAfter}
use Rattle.jm_store.specs.declared.walk.Shift.{Shift}
use Rattle.jm_store.specs.declared.walk.Turn.{Turn}
use Rattle.jm_store.specs.declared.monitors.Slot.{Slot}
use Rattle.jm_store.specs.declared.monitors.Slot.TheVariants.{Free, Planned, Taken}
use Rattle.jm_store.specs.Slots.{monitor_in, monitor_at, monitors_of, slot_at, stored_in}
use Rattle.jm_store.specs.Moves.{IsAtRest}
use Rattle.jm_store.specs.declared.walk.Told.{Told}
use Rattle.jm_store.specs.declared.walk.Told.TheVariants.{Shifts, Rests, Nothing}
use Rattle.jm_store.specs.Walks.{AreAliveBut, AreAmong, AreRows, EndsAll, EndsLike, IsToldByNumber, IsTurn, no_turn, AreTurns, IsShifting, IsShifted, AreShifted, IsAlike, AreAlike}
use Rattle.jm_store.proofs.ReportLemmas.{set_from_bit}
use Rattle.jm_store.proofs.SlotLemmas.{monitor_at-slot, slot_at-set_same, slot_at-set_other, used_within, monitor_used, not_taken}

-- ---- what is dead of an instance
-- where no object that is bound is of a kind, the set of those that are is empty
none_where : (kind : ℕ → Bool) (t : Binding) → ((p o : ℕ) → object_at t p ≡ Some o → kind o ≡ false) → mask_where kind t ≡ 0
none_where kind [] none = refl
none_where kind (None ∷ t) none = let rest = none_where kind t (λ p. none (suc p)) in omega (arith, rest)
none_where kind (Some o ∷ t) none = let rest = none_where kind t (λ p. none (suc p)) in rw (none zero o refl) (omega (arith, rest))

-- where nothing is dead that parameters of a set have, nothing of an instance above the binding is, if no other has any
pub whole_above : (dead : List Bool) (b t : Binding) (free : ℕ) → mask_of t < 2 ^ 8 → is_below b t ≡ true → AreAliveBut dead b free
    → ((p o : ℕ) → bit_at (bit_and (mask_of t) free) p ≡ 1 → object_at t p ≡ Some o → is_dead_object dead o ≡ false) → dead_mask_of dead t ≡ 0
whole_above dead b t free fits below others alive = none_where (is_dead_object dead) t (λ p o at.
    let bound = bound_one t p o at in
    let low : p < 8 = elim (cases_lt p 8) [
      | inl less ↦ less
      | inr high ↦ let none = bit_at_above (mask_of t) 8 p fits high in absurd (omega (arith, bound, none))
    ] in
    elim (cases_eq (bit_at free p) 1) [
      | inl one ↦ let both = bit_at_and (mask_of t) free p in alive p o (omega (arith, both, bound, one)) at
      | inr off ↦ others t p o low below at off
    ])

-- an event's objects are alive
pub others_free : (dead : List Bool) (b : Binding) → mask_of b < 2 ^ 8 → AreLive dead b → AreAliveBut dead b (2 ^ 8 - 1 - mask_of b)
others_free dead b fits live t p o low below at off = by (object_at b p) refl
  where
    by : (x : Option ℕ) → object_at b p ≡ x → is_dead_object dead o ≡ false
    by None none =
        let unbound = unbound_zero b p none in
        let few = bit_at-lt (mask_of b) p in
        let other = bit_at_not w8 (mask_of b) p fits low in
        elim (cases_eq (bit_at (mask_of b) p) 1) [
          | inl one ↦ absurd (unbound one)
          | inr zero' ↦ absurd (off (omega (arith, few, other, zero')))
        ]
    by (Some q) some = subst (λ (n : ℕ). flag_of dead n ≡ false) (same_Some q o (sym (below-object b t p q below some) ∙ at)) (live q (p, some))

-- the first parameter of a set is one of the eight
pub first_small : (left : ℕ) → 0 < left → left < 2 ^ 8 → trailing_zeros w32 left < 8
first_small left some small = elim (cases_lt (trailing_zeros w32 left) 8) [
  | inl low ↦ low
  | inr high ↦
      let fits : left < 2 ^ 32 = omega (arith, small) in
      let none = bit_at_above left 8 (trailing_zeros w32 left) small high in
      let one = (first_left left some fits).1 in
      absurd (omega (arith, none, one))
]

-- an object's flag, by the words of all flags
pub dead_by_word : (flags : List Bool) (words : List ℕ) (o : ℕ)
    → ((k : ℕ) → k < length flags → slice_get flags k ≡ Some (bit_at (slice_index words (k / 64)) (k % 64) == 1))
    → (bit_at (slice_index words (o / 64)) (o % 64) == 1) ≡ false → is_dead_object flags o ≡ false
dead_by_word flags words o each off = elim (cases_lt o (length flags)) [
  | inl low ↦ get_or_from_slice_get flags o false false (each o low ∙ ap (λ (v : Bool). Some v) off)
  | inr high ↦ get_or_past flags o false high
]

-- ---- what the numbers tell of a monitor
shifts-nothing : (n : ℕ) → Shifts n ≡ Nothing → ⊥
shifts-nothing n is = subst is_shift is tt
  where
    is_shift : Told → Type 0
    is_shift (Shifts k) = Unit {0}
    is_shift Rests = Unit {0}
    is_shift Nothing = ⊥

module _ (m : Meaning) {S : Type 0} (Stands : S → List ℕ → Type 0) where
  -- one of which nothing is dead, whose state the letter leaves as it is
  pub rests_by : (letter : ℕ) (dead : List Bool) (b : Binding) (base : Stored S) → is_below b base.instance ≡ true → dead_mask_of dead base.instance ≡ 0 → RestsBy S m Stands letter base.state
      → IsAtRest m Stands letter b dead base
  rests_by letter dead b base below whole rests =
      (below, record { stays = rests.stays; quiet = rests.quiet }, λ w stands cut. rests.goes_on w stands (subst (IsCutWord m w) whole cut))

  -- a letter among those that end a state
  pub over_by : (mask e : ℕ) (state : S) → bit_at mask e ≡ 1 → AreEnds S m Stands mask state → IsOverAfter m Stands e state 0
  over_by mask e state bit are w stands =
      let set' = set_from_bit mask e bit in
      (λ k hit. are.quiet w stands e k set' hit, are.cut w stands e set')

  -- one that gets another number
  pub shifts_by : (HasNumber : S → ℕ → Type 0) (letter : ℕ) (dead : List Bool) (b : Binding) (plain ending endings : List ℕ) (letters : ℕ) (card : Card) (base : Stored S) (before next : ℕ)
      → AreRows m Stands HasNumber letter plain endings → HasNumber base.state before → is_below b base.instance ≡ true → dead_mask_of dead base.instance ≡ 0 → slice_get plain before ≡ Some next → next < at_rest
      → EndsLike ending (mask_of base.instance) endings next → ((e : ℕ) → bit_at letters e ≡ 1 → IsOn card e) → IsShifting m Stands HasNumber letter dead b ending letters card base next
  shifts_by HasNumber letter dead b plain ending endings letters card base before next rows has below whole at low like on = record {
    before = before;
    has = has;
    low = omega (arith, low);
    below = below;
    whole = whole;
    moves = λ after has'. rows.moves before next at (λ is. absurd (omega (arith, is, low))) (λ is. absurd (omega (arith, is, low))) base.state after has has';
    on = on;
    over = λ after has' e ends.
        let (mask, found, one) = like e ends in
        over_by mask e after one (rows.ends next mask found after has');
  }

  -- what is told where its slot is in the lists of the letters
  pub told_by : (HasNumber : S → ℕ → Type 0) (letter : ℕ) (dead : List Bool) (b : Binding) (ending : List ℕ) (letters : ℕ) (card : Card) (base : Stored S) (next : ℕ) (told : Told) → (told ≡ Nothing) ⊎ (told ≡ Shifts next)
      → (told ≢ Nothing → IsShifting m Stands HasNumber letter dead b ending letters card base next) → IsToldByNumber m Stands HasNumber letter dead b ending letters card base told
  told_by HasNumber letter dead b ending letters card base next told (inl none) is = subst (IsToldByNumber m Stands HasNumber letter dead b ending letters card base) (sym none) tt
  told_by HasNumber letter dead b ending letters card base next told (inr some) is =
      subst (IsToldByNumber m Stands HasNumber letter dead b ending letters card base) (sym some) (is (λ none. shifts-nothing next (sym some ∙ none)))

  -- that the slot is in the lists of one letter needn't be asked
  pub shifts_all : (HasNumber : S → ℕ → Type 0) (letter : ℕ) (dead : List Bool) (b : Binding) (ending : List ℕ) (letters others : ℕ) (card : Card) (base : Stored S) (next : ℕ)
      → ((e : ℕ) → bit_at letters e ≡ 1 → (e ≡ letter → ⊥) → bit_at others e ≡ 1) → IsOn card letter → IsShifting m Stands HasNumber letter dead b ending others card base next
      → IsShifting m Stands HasNumber letter dead b ending letters card base next
  shifts_all HasNumber letter dead b ending letters others card base next but own is = record {
    before = is.before;
    has = is.has;
    low = is.low;
    below = is.below;
    whole = is.whole;
    moves = is.moves;
    on = λ e bit. elim (cases_eq e letter) [
      | inl same ↦ subst (IsOn card) (sym same) own
      | inr other ↦ is.on e (but e bit other)
    ];
    over = is.over;
  }

-- letters among some that a row has at a number
pub like_by : (ending : List ℕ) (domain letters : ℕ) (row : List ℕ) (number : ℕ) → AreAmong ending domain letters → EndsAll letters row number → EndsLike ending domain row number
like_by ending domain letters row number among all e ends = all e (among e ends)

-- ---- moves that were noted
pub no_turns : (plain : List ℕ) (ends : ℕ) (endings : List ℕ) (n k : ℕ) → IsTurn plain ends endings (slice_index_or (replicate n no_turn) k no_turn)
no_turns plain ends endings zero k low = absurd (omega (arith, low))
no_turns plain ends endings (suc n) zero low = absurd (omega (arith, low))
no_turns plain ends endings (suc n) (suc k) low = no_turns plain ends endings n k low

-- one more
pub noted : (plain : List ℕ) (ends : ℕ) (endings : List ℕ) (old new : List Turn) (i : ℕ) (turn : Turn) → AreTurns plain ends endings old → slice_index_or new i no_turn ≡ turn
    → ((k : ℕ) → (k ≡ i → ⊥) → slice_index_or new k no_turn ≡ slice_index_or old k no_turn) → IsTurn plain ends endings turn → AreTurns plain ends endings new
noted plain ends endings old new i turn before here others is k = elim (cases_eq k i) [
  | inl same ↦ subst (IsTurn plain ends endings) (sym (ap (λ (n : ℕ). slice_index_or new n no_turn) same ∙ here)) is
  | inr other ↦ subst (IsTurn plain ends endings) (sym (others k other)) (before k)
]

-- an entry still counts if its card has its age
pub there_by : (cards : List Card) (x : Listed) → x.slot < length cards → is_there cards x ≡ ((slice_index_or cards x.slot fresh).age / 2 == x.age / 2)
there_by cards x low = ap (λ (v : Bool). v && ((slice_index_or cards x.slot fresh).age / 2 == x.age / 2)) (lt-ltb x.slot (length cards) low)

-- ---- slots that have as much as they had
module _ {S : Type 0} where
  alike_slot : (x : Slot S) → IsAlike x x
  alike_slot (Free next) = refl
  alike_slot Planned = refl
  alike_slot (Taken s) = (s, refl, refl)

  pub alike_same : (slots : List (Slot S)) → AreAlike slots slots
  alike_same slots = record { size = refl; each = λ k. alike_slot (slot_at slots k) }

  alike_then : (x y z : Slot S) → IsAlike x y → IsAlike y z → IsAlike x z
  alike_then (Free next) y z first second = subst (λ (w : Slot S). IsAlike w z) first second
  alike_then Planned y z first second = subst (λ (w : Slot S). IsAlike w z) first second
  alike_then (Taken s) y z (t, is, same) second =
      let (u, now, next) = subst (λ (w : Slot S). IsAlike w z) is second in (u, now, next ∙ same)

  pub alike_next : (xs ys zs : List (Slot S)) → AreAlike xs ys → AreAlike ys zs → AreAlike xs zs
  alike_next xs ys zs first second = record {
    size = second.size ∙ first.size;
    each = λ k. alike_then (slot_at xs k) (slot_at ys k) (slot_at zs k) (first.each k) (second.each k);
  }

  -- a monitor that gets another state
  pub alike_set : (slots : List (Slot S)) (k : ℕ) (s t : Stored S) → k < length slots → slot_at slots k ≡ Taken s → t.instance ≡ s.instance → length (slice_set slots k (Taken t)) ≡ length slots
      → AreAlike slots (slice_set slots k (Taken t))
  alike_set slots k s t low at same size = record {
    size = size;
    each = λ j. elim (cases_eq j k) [
      | inl is ↦ subst (λ (n : ℕ). IsAlike (slot_at slots n) (slot_at (slice_set slots k (Taken t)) n)) (sym is)
          (subst (λ (x : Slot S). IsAlike x (slot_at (slice_set slots k (Taken t)) k)) (sym at) (t, slot_at-set_same slots k (Taken t) low, same))
      | inr other ↦ subst (IsAlike (slot_at slots j)) (sym (slot_at-set_other slots k j (Taken t) other)) (alike_slot (slot_at slots j))
    ];
  }

  pub alike_size : (xs ys : List (Slot S)) → AreAlike xs ys → length (monitors_of ys) ≡ length (monitors_of xs)
  alike_size xs ys alike = length-map ys monitor_in ∙ alike.size ∙ sym (length-map xs monitor_in)

  count_one : (x y : Slot S) → IsAlike x y → (xs ys : List (Slot S)) → length (stored_in (monitors_of xs)) ≡ length (stored_in (monitors_of ys))
      → length (stored_in (monitors_of (x ∷ xs))) ≡ length (stored_in (monitors_of (y ∷ ys)))
  count_one (Free next) y is xs ys same = rw is same
  count_one Planned y is xs ys same = rw is same
  count_one (Taken s) y (t, is, instance) xs ys same = rw is (omega (arith, same))

  -- there are as many monitors
  count_alike : (xs ys : List (Slot S)) → length ys ≡ length xs → ((k : ℕ) → IsAlike (slot_at xs k) (slot_at ys k)) → length (stored_in (monitors_of xs)) ≡ length (stored_in (monitors_of ys))
  count_alike [] [] size each = refl
  count_alike [] (y ∷ ys) size each = absurd (omega (arith, size))
  count_alike (x ∷ xs) [] size each = absurd (omega (arith, size))
  count_alike (x ∷ xs) (y ∷ ys) size each = count_one x y (each zero) xs ys (count_alike xs ys (omega (arith, size)) (λ k. each (suc k)))

  pub alike_counted : (xs ys : List (Slot S)) → AreAlike xs ys → length (stored_in (monitors_of xs)) ≡ length (stored_in (monitors_of ys))
  alike_counted xs ys alike = count_alike xs ys alike.size alike.each

-- what was lent of a list whole, written back
pub written_back : {X : Type 0} (len : ℕ) (items new : List X) → length items ≡ len → length new ≡ length items → take len (new ++ drop (length new) items) ≡ new
written_back len items new whole size =
    ap (λ l. take len (new ++ l)) (drop_all (length new) items (omega (arith, size))) ∙ ap (take len) (append-nil new) ∙ take_all len new (omega (arith, whole, size))

-- ---- a monitor in a slot that gets another
pub slot_read : {S : Type 0} (slots : List (Slot S)) (k : ℕ) (d : Slot S) → k < length slots → slot_at slots k ≡ get_or slots k d
slot_read slots k d low = get_or_default slots k (Free 0) d low

pub read_none : {S : Type 0} (slots : List (Slot S)) (k : ℕ) (d : Slot S) → k < length slots → ((s : Stored S) → get_or slots k d ≡ Taken s → ⊥) → monitor_at (monitors_of slots) k ≡ None
read_none slots k d low other = monitor_at-slot slots k ∙ ap monitor_in (slot_read slots k d low) ∙ not_taken (get_or slots k d) other

-- a slot that is written as it was
pub same_written : {S : Type 0} (slots : List (Slot S)) (k : ℕ) (x : Slot S) → slice_set slots k (get_or slots k x) ≡ slots
same_written slots k x = set-get_or slots k x

pub renumbered : {S : Type 0} (slots : List (Slot S)) (k : ℕ) (old s next : Stored S) → slot_at slots k ≡ Taken old → monitor_at (monitors_of slots) k ≡ Some s
    → (old ≡ s) × (monitor_at (monitors_of (slice_set slots k (Taken next))) k ≡ Some next)
renumbered {S} slots k old s next taken at =
    let low = used_within slots k (monitor_used slots k s at) in
    let here : Some old ≡ Some s = sym (monitor_at-slot slots k ∙ ap monitor_in taken) ∙ at in
    (same_Some old s here, monitor_at-slot (slice_set slots k (Taken next)) k ∙ ap monitor_in (slot_at-set_same slots k (Taken next) low))

pub renumbered_others : {S : Type 0} (slots : List (Slot S)) (k j : ℕ) (x : Slot S) → (j ≡ k → ⊥) → monitor_at (monitors_of (slice_set slots k x)) j ≡ monitor_at (monitors_of slots) j
renumbered_others slots k j x other = monitor_at-slot (slice_set slots k x) j ∙ ap monitor_in (slot_at-set_other slots k j x other) ∙ sym (monitor_at-slot slots j)

-- ---- shifts that are carried out
module _ {S : Type 0} (HasNumber : S → ℕ → Type 0) where
  pub shifted_none : (monitors : List (Option (Stored S))) → AreShifted HasNumber [] monitors monitors
  shifted_none monitors = record { each = λ shift has. absurd (Contains-none shift has); others = λ k none. refl; size = refl }

  pub shifted_more : (shifts : List Shift) (i : ℕ) (x : Shift) (first before after : List (Option (Stored S))) → i < length shifts → x ≡ get_or shifts i x → AllPairs (λ a b. a.slot ≢ b.slot) shifts
      → AreShifted HasNumber (take i shifts) first before → IsShifted HasNumber (monitor_at before x.slot) (monitor_at after x.slot) x.number → ((k : ℕ) → (k ≡ x.slot → ⊥) → monitor_at after k ≡ monitor_at before k)
      → length after ≡ length before → AreShifted HasNumber (take (i + 1) shifts) first after
  shifted_more shifts i x first before after low at apart done one others size = record {
    each = λ shift has. elim (Contains-push_cases (take i shifts) x shift (subst (λ (l : List Shift). Contains l shift) more has)) [
      | inl was ↦ λ s k here number.
          let (t, there, instance, is) = done.each shift was s k here number in
          (t, others shift.slot (λ same. earlier shift was same) ∙ there, instance, is)
      | inr same ↦ subst (λ (y : Shift). IsShifted HasNumber (monitor_at first y.slot) (monitor_at after y.slot) y.number) same
          (λ s k here number. one s k (done.others x.slot (λ shift has is. earlier shift has is) ∙ here) number)
    ];
    others = λ k none.
        others k (λ same. none x (subst (λ (l : List Shift). Contains l x) (sym more) (Contains-push (take i shifts) x)) (sym same))
        ∙ done.others k (λ shift has. none shift (subst (λ (l : List Shift). Contains l shift) (sym more) (Contains-append_left (take i shifts) (x ∷ []) shift has)));
    size = size ∙ done.size;
  }
    where
      more : take (i + 1) shifts ≡ take i shifts ++ x ∷ []
      more = take_more shifts i x low ∙ ap (λ (y : Shift). take i shifts ++ y ∷ []) (sym at)

      earlier : (shift : Shift) → Contains (take i shifts) shift → shift.slot ≡ x.slot → ⊥
      earlier shift (j, within, is) same =
          let small : j < i = (let size = length-take-le i shifts (omega (arith, low)) in omega (arith, within, size)) in
          let mine : get_or shifts j shift ≡ shift = sym (get_or-take i shifts j shift small) ∙ is in
          let other : get_or shifts i shift ≡ x = get_or_default shifts i shift x low ∙ sym at in
          apart j i shift small low (ap (λ (y : Shift). y.slot) mine ∙ same ∙ sym (ap (λ (y : Shift). y.slot) other))
