-- Events of which it is known which monitors they may change.
use Rattle.std.proofs.Common.{◌≡◌, ◌≢◌, ℕ, zero, suc, ◌+◌, ◌<◌, ◌≤◌, ◌⊎◌, inl, inr, Bool, true, false, cond, ◌&&◌, ◌||◌, not, List, [], ◌∷◌, ◌++◌, length, map, take, drop, get_or, refl, sym, ap, ◌∙◌, subst, append-nil, arith}
use Rattle.std.specs.Prelude.{Option, Some, None, Contains, AllPairs, filter, count_by, slice_set, slice_index_or, bit_and}
use Rattle.std.proofs.lemmas.Bool.{both_ways, cases_Bool, cases_eq, eq-eqb, false≢true}
use Rattle.std.proofs.lemmas.Option.{same_Some, none-some}
use Rattle.std.proofs.lemmas.List.{take_more, map-append, get_or_default, get_or-set_same, get_or-set_other}
use Rattle.std.proofs.lemmas.List.Elements.{Contains-append_left, Contains-append_right, Contains-append_cases, filter-append}
use Rattle.jm_model.specs.Bindings.{is_below, is_compatible, mask_of, objects_of}
use Rattle.jm_model.specs.Meanings.{Meaning}
use Rattle.jm_model.specs.declared.binding.Binding.{Binding}
use Rattle.jm_semantics.proofs.ListLemmas.{Contains-cons_cases, Contains-head}
use Rattle.jm_index.proofs.ReadLemmas.{Contains-none, Contains-cons}
use Rattle.jm_awake.specs.declared.card.Card.{Card}
use Rattle.jm_awake.specs.declared.card.Listed.{Listed}
use Rattle.jm_awake.specs.Awake.{SlotList, Lists, no_list, list_at, card_at, is_there, slots_there, IsOn, IsKept, IsListOf, Occupant, Occupants, with_slot, AreFound, AreSoundBut, AreSound, AreStill, IsWakable, AreAllAbove, HasNone}
use Rattle.jm_awake.proofs.SoundLemmas.{none_sound, none_rested}
use Rattle.jm_awake.proofs.ListLemmas.{filtered_from, filtered_passes}
use Rattle.jm_awake.proofs.StepLemmas.{with_here, with_other}
use Rattle.jm_awake.proofs.ReadLemmas.{read_each, read_apart, read_all}
use Rattle.jm_awake.proofs.RestLemmas.{sound_along, rested_still, made_rested, IsAsBefore}
use Rattle.jm_index.specs.Index.{Pair, Binds}
use Rattle.jm_marks.specs.Marks.{is_dead_object}
use Rattle.jm_monitors.specs.declared.stored.Stored.{Stored}
use Rattle.jm_monitors.specs.Steps.{AreResting, after_death}
use Rattle.jm_monitors.proofs.DeathLemmas.{object-placed, cut_by_own_death-lem}
use Rattle.jm_store.specs.declared.moves.Move.{Move}
use Rattle.jm_store.specs.Slots.{monitors_of, monitor_at, stored_in}
use Rattle.jm_store.specs.Moves.{IsAtRest, IsRead, IsReadIn, IsReadAt, AreGiven, AreMovesRead, AreVisited, after_move, after_moves, AreApart, has_all, asks_by, ends_all}
use Rattle.jm_store.specs.Listed.{occupant_for, occupant_of, occupants_of, slots_listed, RestsAt, RestsIn, AreListedBut, AreListed, AreOthersAtRest, Comes, HasList, IsInAll, IsFor}
use Rattle.jm_store.specs.Walks.{AreAmong, AreReadable}
use Rattle.jm_store.proofs.GivenLemmas.{pairs_none, pairs_cons, pairs_append, pairs_head, pairs_tail, given_all, Contains-from_map}
use Rattle.jm_store.proofs.SlotLemmas.{place_of}
use Rattle.jm_store.proofs.CommitLemmas.{housed_within}
use Rattle.jm_store.proofs.HousingLemmas.{pair_by_slot, same_one}
use Rattle.jm_store.specs.declared.monitors.Slot.{Slot}
use Rattle.jm_store.specs.Housing.{IsHoused}
use Rattle.jm_store.proofs.MoveLemmas.{compatible_above}
use Rattle.jm_store.proofs.VisitLemmas.{below_within, all_within, mask_within, asked_above, slots_counted}
use Rattle.jm_store.proofs.RestingLemmas.{given_append}
use Rattle.jm_store.proofs.AfterLemmas.{moved_other, length-after}

-- ---- the monitors as the lists see them
pub occupant_at : {S : Type 0} (o : Option (Stored S)) (x : Occupant) → occupant_of o ≡ Some x → (s : Stored S) × (o ≡ Some s) × (s.instance ≡ x.instance)
occupant_at None x is = absurd (none-some x is)
occupant_at (Some s) x is =
    (s, refl, ap (λ (y : Occupant). y.instance) (same_Some (occupant_for s.instance) x is))

pub occupant_some : {S : Type 0} (o : Option (Stored S)) (s : Stored S) → o ≡ Some s → occupant_of o ≡ Some (occupant_for s.instance)
occupant_some o s at = ap occupant_of at

-- a slot with a monitor is there
pub within : {S : Type 0} (k : ℕ) (s : Stored S) (xs : List (Option (Stored S))) → monitor_at xs k ≡ Some s → k < length xs
within zero s [] at = absurd (none-some s at)
within (suc k) s [] at = absurd (none-some s at)
within zero s (x ∷ xs) at = omega arith
within (suc k) s (x ∷ xs) at = let lt = within k s xs at in omega (arith, lt)

pub empty_list : {X : Type 0} (xs : List X) → length xs ≡ 0 → xs ≡ []
empty_list [] none = refl
empty_list (x ∷ xs) none = absurd (omega (arith, none))

-- ---- the slots of entries
slots_push : (cards : List Card) (xs : List Listed) (x : Listed) (t : Bool) → is_there cards x ≡ t → slots_there cards (xs ++ x ∷ []) ≡ slots_there cards xs ++ cond t (x.slot ∷ []) []
slots_push cards xs x t is =
    ap (λ (l : List Listed). map (λ (y : Listed). y.slot) l) (filter-append (is_there cards) xs (x ∷ []))
    ∙ map-append (λ (y : Listed). y.slot) (filter (is_there cards) xs) (filter (is_there cards) (x ∷ []))
    ∙ ap (λ (l : List ℕ). slots_there cards xs ++ l) (one t is)
  where
    one : (v : Bool) → is_there cards x ≡ v → slots_there cards (x ∷ []) ≡ cond v (x.slot ∷ []) []
    one true e = rw e refl
    one false e = rw e refl

pub slots_next : (cards : List Card) (xs : List Listed) (i : ℕ) (x : Listed) (t : Bool) → i < length xs → x ≡ get_or xs i x → is_there cards x ≡ t
    → slots_there cards (take (i + 1) xs) ≡ slots_there cards (take i xs) ++ cond t (x.slot ∷ []) []
slots_next cards xs i x t low at is =
    ap (slots_there cards) (take_more xs i x low ∙ ap (λ (y : Listed). take i xs ++ y ∷ []) (sym at)) ∙ slots_push cards (take i xs) x t is

-- no more of some entries than of all
pub slots_fewer : (cards : List Card) (xs : List Listed) (i : ℕ) → length (slots_there cards (take i xs)) ≤ length (slots_there cards xs)
slots_fewer cards xs zero = omega arith
slots_fewer cards [] (suc i) = omega arith
slots_fewer cards (x ∷ xs) (suc i) = by (slots_fewer cards xs i) (is_there cards x) refl
  where
    by : length (slots_there cards (take i xs)) ≤ length (slots_there cards xs) → (t : Bool) → is_there cards x ≡ t → length (slots_there cards (x ∷ take i xs)) ≤ length (slots_there cards (x ∷ xs))
    by few true e = rw e (omega (arith, few))
    by few false e = rw e few

-- one entry more, at some place of the same list
pub slots_at : (cards : List Card) (xs ys : List Listed) (i : ℕ) (none : Listed) (t : Bool) → ys ≡ xs → i < length xs → is_there cards (get_or ys i none) ≡ t
    → slots_there cards (take (i + 1) xs) ≡ slots_there cards (take i xs) ++ cond t ((get_or ys i none).slot ∷ []) []
slots_at cards xs ys i none t same low is =
    slots_next cards xs i (get_or ys i none) t low (ap (λ (l : List Listed). get_or l i none) same ∙ get_or_default xs i none (get_or ys i none) low) is

pub same_list : (old new : Lists) (place : ℕ) → new.lists ≡ old.lists → list_at new place ≡ list_at old place
same_list old new place lists = ap (λ (l : List SlotList). slice_index_or l place no_list) lists

-- ---- what a list tells
module _ (m : Meaning) {S : Type 0} (Stands : S → List ℕ → Type 0) (dead : List Bool) (q : Option ℕ) (monitors : List (Option (Stored S))) (lists : Lists) (place e : ℕ) (b : Binding) (of : IsListOf (list_at lists place) e b)
    (listed : AreListedBut m Stands dead q monitors lists) where
  -- each entry that counts is of a monitor above the binding
  pub listed_each : (x : Listed) → Contains (list_at lists place).entries x → is_there lists.cards x ≡ true → (s : Stored S) × (monitor_at monitors x.slot ≡ Some s) × (is_below b s.instance ≡ true)
  listed_each x has is =
      let entry = read_each q (occupants_of monitors) lists place listed.sound of.kept x has is in
      let (s, at, instance) = occupant_at (monitor_at monitors x.slot) entry.occupant entry.here in
      (s, at, subst (λ (t : Binding). is_below t s.instance ≡ true) of.binding (ap (is_below (list_at lists place).binding) instance ∙ entry.below))

  -- and is in the lists of the letter
  pub listed_on : q ≡ None → (x : Listed) → Contains (list_at lists place).entries x → is_there lists.cards x ≡ true → IsOn (card_at lists x.slot) e
  listed_on none x has is =
      let entry = read_each q (occupants_of monitors) lists place listed.sound of.kept x has is in
      subst (λ (n : ℕ). IsOn (card_at lists x.slot) n) of.letter (entry.on (λ loose. none-some place (sym none ∙ loose)))

  -- no slot twice
  pub listed_apart : AllPairs (λ j k. j ≢ k) (slots_listed lists place)
  listed_apart = read_apart q (occupants_of monitors) lists place listed.sound of.kept

  -- all others above the binding rest
  pub listed_rest : AreOthersAtRest m Stands dead e b (slots_listed lists place) monitors
  listed_rest k s at below =
      let here : occupants_of monitors k ≡ Some (occupant_for s.instance) = occupant_some (monitor_at monitors k) s at in
      let own : is_below (list_at lists place).binding s.instance ≡ true = subst (λ (t : Binding). is_below t s.instance ≡ true) (sym of.binding) below in
      elim (listed.rested place k (occupant_for s.instance) of.kept here own) [
        | inl on ↦ inl (read_all q (occupants_of monitors) lists place listed.sound of.kept k (occupant_for s.instance) here own on)
        | inr rests ↦
            let at_rest : RestsAt m Stands dead e (Some s) = subst (RestsAt m Stands dead e) at (subst (λ (n : ℕ). RestsAt m Stands dead n (monitor_at monitors k)) of.letter rests) in
            inr (below, at_rest.0, at_rest.1)
      ]

-- ---- a monitor goes, comes or moves
module _ {S : Type 0} (monitors : List (Option (Stored S))) (k : ℕ) (v : Option (Stored S)) (low : k < length monitors) where
  pub occupants_set : (j : ℕ) → occupants_of (slice_set monitors k v) j ≡ with_slot (occupants_of monitors) k (occupant_of v) j
  occupants_set j = elim (cases_eq j k) [
    | inl same ↦
        ap (λ (n : ℕ). occupants_of (slice_set monitors k v) n) same ∙ ap occupant_of (get_or-set_same monitors k v None low)
        ∙ sym (with_here (occupants_of monitors) k (occupant_of v)) ∙ sym (ap (with_slot (occupants_of monitors) k (occupant_of v)) same)
    | inr other ↦
        ap occupant_of (get_or-set_other monitors k j v None other) ∙ sym (with_other (occupants_of monitors) k j (occupant_of v) other)
  ]

-- a slot without a monitor, or with that of an instance, can be woken
pub wakable_none : (o : Occupants) (lists : Lists) (slot : ℕ) (t : Binding) (resting : ℕ) → (o slot ≡ None) ⊎ (o slot ≡ Some (occupant_for t)) → IsWakable None o lists slot t resting
wakable_none o lists slot t resting free = record {
  here = λ x at. elim free [
    | inl none ↦ absurd (none-some x (sym none ∙ at))
    | inr some ↦ sym (ap (λ (y : Occupant). y.instance) (same_Some (occupant_for t) x (sym some ∙ at)))
  ];
  clear = λ place none. absurd (none-some place none);
}

module _ (m : Meaning) {S : Type 0} (Stands : S → List ℕ → Type 0) (dead : List Bool) where
  -- a monitor that another slot has is as before
  kept_other : (but : Option ℕ) (before after : List (Option (Stored S))) (j : ℕ) (x : Occupant) → (but ≡ Some j → ⊥) → monitor_at after j ≡ monitor_at before j → occupants_of after j ≡ Some x
      → IsAsBefore (RestsIn m Stands dead before) (RestsIn m Stands dead after) but (occupants_of before) j x
  kept_other but before after j x stays same at = record {
    not_left = stays;
    before = x;
    at = ap occupant_of (sym same) ∙ at;
    instance = refl;
    rests = λ e rests. subst (RestsAt m Stands dead e) (sym same) rests;
  }

  -- the monitors look the same
  pub listed_same : (q : Option ℕ) (before after : List (Option (Stored S))) (lists : Lists) → ((k : ℕ) → monitor_at after k ≡ monitor_at before k) → AreListedBut m Stands dead q before lists → AreListedBut m Stands dead q after lists
  listed_same q before after lists same listed = record {
    sound = sound_along q (occupants_of before) (occupants_of after) lists (λ k. ap occupant_of (same k)) listed.sound;
    rested = λ place k x kept at below. elim (listed.rested place k x kept (ap occupant_of (sym (same k)) ∙ at) below) [
      | inl on ↦ inl on
      | inr rests ↦ inr (subst (RestsAt m Stands dead (list_at lists place).letter) (sym (same k)) rests)
    ];
  }

  -- other lists, of the same monitors
  pub listed_still : (q p : Option ℕ) (monitors : List (Option (Stored S))) (old new : Lists) → AreSoundBut p (occupants_of monitors) new → AreStill None old new → AreListedBut m Stands dead q monitors old → AreListedBut m Stands dead p monitors new
  listed_still q p monitors old new sound still listed = record {
    sound = sound;
    rested = rested_still (RestsIn m Stands dead monitors) (RestsIn m Stands dead monitors) None (occupants_of monitors) (occupants_of monitors) old new still listed.rested
        (λ j x at. inl (kept_other None monitors monitors j x (λ none. none-some j none) refl at));
  }

  free_for : (o : Option (Stored S)) (s : Stored S) → ((t : Stored S) → o ≡ Some t → t.instance ≡ s.instance) → (occupant_of o ≡ None) ⊎ (occupant_of o ≡ Some (occupant_for s.instance))
  free_for None s same = inl refl
  free_for (Some t) s same = inr (ap (λ (b : Binding). Some (occupant_for b)) (same t refl))

  -- a monitor comes, or moves
  pub listed_put : (monitors : List (Option (Stored S))) (old new : Lists) (k : ℕ) (s : Stored S) → k < length monitors → ((t : Stored S) → monitor_at monitors k ≡ Some t → t.instance ≡ s.instance)
      → ((o : Occupants) → Comes o old new k s.instance) → AreStill None old new → (AreFound old → IsInAll new k s.instance) → AreListed m Stands dead monitors old → AreListed m Stands dead (slice_set monitors k (Some s)) new
  listed_put monitors old new k s low same comes still told listed =
      let after = slice_set monitors k (Some s) in
      record {
        sound = sound_along None (with_slot (occupants_of monitors) k (Some (occupant_for s.instance))) (occupants_of after) new (occupants_set monitors k (Some s) low)
            (comes (occupants_of monitors) (free_for (monitor_at monitors k) s same) listed.sound);
        rested = rested_still (RestsIn m Stands dead monitors) (RestsIn m Stands dead after) None (occupants_of monitors) (occupants_of after) old new still listed.rested (λ j x at.
            elim (cases_eq j k) [
              | inl is ↦
                  let here : occupant_of (Some s) ≡ Some x = sym (ap occupant_of (get_or-set_same monitors k (Some s) None low)) ∙ sym (ap (occupants_of after) is) ∙ at in
                  let instance : s.instance ≡ x.instance = ap (λ (y : Occupant). y.instance) (same_Some (occupant_for s.instance) x here) in
                  inr (λ place kept below. inl (subst (λ (n : ℕ). IsOn (card_at new n) (list_at new place).letter) (sym is)
                  (told listed.sound.found place kept (ap (is_below (list_at new place).binding) instance ∙ below))))
              | inr other ↦ inl (kept_other None monitors after j x (λ none. none-some j none) (get_or-set_other monitors k j (Some s) None other) at)
            ]);
      }

  -- a monitor goes
  pub listed_drop : (monitors : List (Option (Stored S))) (old new : Lists) (k : ℕ) → k < length monitors → ((q : Option ℕ) (o : Occupants) → AreSoundBut q o old → AreSoundBut q (with_slot o k None) new) → AreStill (Some k) old new
      → AreListed m Stands dead monitors old → AreListed m Stands dead (slice_set monitors k None) new
  listed_drop monitors old new k low leaves still listed =
      let after = slice_set monitors k None in
      record {
        sound = sound_along None (with_slot (occupants_of monitors) k None) (occupants_of after) new (occupants_set monitors k None low) (leaves None (occupants_of monitors) listed.sound);
        rested = rested_still (RestsIn m Stands dead monitors) (RestsIn m Stands dead after) (Some k) (occupants_of monitors) (occupants_of after) old new still listed.rested (λ j x at.
            elim (cases_eq j k) [
              | inl is ↦
                  let here : occupant_of {S = S} None ≡ Some x = sym (ap occupant_of (get_or-set_same monitors k None None low)) ∙ sym (ap (occupants_of after) is) ∙ at in
                  absurd (none-some x here)
              | inr other ↦ inl (kept_other (Some k) monitors after j x (λ same. other (sym (same_Some k j same))) (get_or-set_other monitors k j None None other) at)
            ]);
      }

  -- no list
  pub none_listed : (monitors : List (Option (Stored S))) (lists : Lists) → HasNone lists → AreListed m Stands dead monitors lists
  none_listed monitors lists none = record {
    sound = none_sound None (occupants_of monitors) lists none;
    rested = none_rested (RestsIn m Stands dead monitors) (occupants_of monitors) lists none;
  }

  -- ---- moves
  pub listed_move : (monitors : List (Option (Stored S))) (old new : Lists) (move : Move S) (k : ℕ) → move.slot ≡ Some k → IsFor monitors move → (move.stays ≡ true → AreListed m Stands dead (slice_set monitors k (Some move.monitor)) new)
      → (move.stays ≡ false → AreListed m Stands dead (slice_set monitors k None) new) → AreListed m Stands dead (after_move move monitors) new
  listed_move monitors old new move k slot is stays goes = rw slot (by move.stays refl)
    where
      by : (t : Bool) → move.stays ≡ t → AreListed m Stands dead (slice_set monitors k (cond move.stays (Some move.monitor) None)) new
      by true e = rw e (stays e)
      by false e = rw e (goes e)

-- the monitors of slots that moves don't have
pub after_others : {S : Type 0} (moves : List (Move S)) (monitors : List (Option (Stored S))) (k : ℕ) → ((move : Move S) → Contains moves move → move.slot ≡ Some k → ⊥) → monitor_at (after_moves moves monitors) k ≡ monitor_at monitors k
after_others [] monitors k none = refl
after_others {S} (x ∷ moves) monitors k none =
    moved_other x.slot (cond x.stays (Some x.monitor) None) (after_moves moves monitors) k (none x (Contains-head x moves))
    ∙ after_others moves monitors k (λ move has. none move (Contains-cons x move moves has))

pub for_after : {S : Type 0} (move : Move S) (moves : List (Move S)) (monitors : List (Option (Stored S))) → AreApart (move ∷ moves) → IsFor monitors move → IsFor (after_moves moves monitors) move
for_after {S} move moves monitors apart is k slot =
    let here = is k slot in
    let size = length-after moves monitors in
    let same = after_others moves monitors k (λ y has other. pairs_head (λ (a c : Move S). (j : ℕ) → a.slot ≡ Some j → c.slot ≡ Some j → ⊥) move moves apart y has k slot other) in
    (omega (arith, size, here.0), λ s at. here.1 s (sym same ∙ at))

-- the moves from some place on
pub apart_drop : {S : Type 0} (moves : List (Move S)) (i : ℕ) → AreApart moves → AreApart (drop i moves)
apart_drop moves zero apart = apart
apart_drop [] (suc i) apart = apart
apart_drop {S} (x ∷ moves) (suc i) apart = apart_drop moves i (pairs_tail (λ (a c : Move S). (j : ℕ) → a.slot ≡ Some j → c.slot ≡ Some j → ⊥) x moves apart)

-- ---- what becomes of other lists
dec_in : (xs : List ℕ) (k : ℕ) → Contains xs k ⊎ (Contains xs k → ⊥)
dec_in [] k = inr (λ c. Contains-none k c)
dec_in (x ∷ xs) k =
    elim (cases_eq x k) [
      | inl same ↦ inl (subst (λ (n : ℕ). Contains (x ∷ xs) n) same (Contains-head x xs))
      | inr other ↦ elim (dec_in xs k) [
        | inl c ↦ inl (Contains-cons x k xs c)
        | inr absent ↦ inr (λ c. elim (Contains-cons_cases x xs k c) [ inl same ↦ other same | inr later ↦ absent later ])
      ]
    ]

pub in_all_still : (mid new : Lists) (k : ℕ) (t : Binding) → AreStill None mid new → IsInAll mid k t → IsInAll new k t
in_all_still mid new k t still told place kept below =
    let was = still place kept in
    let on = told place was.kept (subst (λ (c : Binding). is_below c t ≡ true) was.binding below) in
    subst (IsOn (card_at new k)) (sym was.letter) (was.on k (λ none. none-some k none) on)

pub still_same : (a : Lists) → AreStill None a a
still_same a place kept = record { kept = kept; letter = refl; binding = refl; on = λ k other on. on }

pub with_same : (o : Occupants) (k : ℕ) (x : Occupant) → o k ≡ Some x → (j : ℕ) → o j ≡ with_slot o k (Some x) j
with_same o k x at j = elim (cases_eq j k) [
  | inl same ↦ ap o same ∙ at ∙ sym (with_here o k (Some x)) ∙ sym (ap (with_slot o k (Some x)) same)
  | inr other ↦ sym (with_other o k j (Some x) other)
]

module _ (m : Meaning) {S : Type 0} (Stands : S → List ℕ → Type 0) (dead : List Bool) (monitors : List (Option (Stored S))) (old new : Lists) where
  -- a monitor that rests at a letter leaves the lists of the letter
  pub listed_off : (place slot e : ℕ) (b : Binding) (s : Stored S) → IsListOf (list_at old place) e b → monitor_at monitors slot ≡ Some s → IsAtRest m Stands e b dead s → new.lists ≡ old.lists
      → ((p : ℕ) (o : Occupants) (x : Occupant) → (list_at old p).letter ≡ e → IsKept old p → o slot ≡ Some x → is_below (list_at old p).binding x.instance ≡ true → AreSoundBut (Some p) o old → AreSoundBut (Some p) o new)
      → ((k d : ℕ) → (k ≡ slot → d ≡ e → ⊥) → IsOn (card_at old k) d → IsOn (card_at new k) d) → AreListedBut m Stands dead (Some place) monitors old → AreListedBut m Stands dead (Some place) monitors new
  listed_off place slot e b s of at resting lists sound on listed = record {
    sound = sound place (occupants_of monitors) (occupant_for s.instance) of.letter of.kept (occupant_some (monitor_at monitors slot) s at)
        (subst (λ (t : Binding). is_below t s.instance ≡ true) (sym of.binding) resting.0) listed.sound;
    rested = λ p k x kept here below.
        let same : list_at new p ≡ list_at old p = ap (λ (l : List SlotList). slice_index_or l p no_list) lists in
        let letter : (list_at new p).letter ≡ (list_at old p).letter = ap (λ (l : SlotList). l.letter) same in
        elim (listed.rested p k x (sym (ap (λ (l : SlotList). l.is_kept) same) ∙ kept) here (subst (λ (l : SlotList). is_below l.binding x.instance ≡ true) same below)) [
          | inl was ↦ elim (cases_eq k slot) [
            | inl mine ↦ elim (cases_eq (list_at old p).letter e) [
              | inl its ↦ inr (subst (λ (n : ℕ). RestsAt m Stands dead n (monitor_at monitors k)) (sym (letter ∙ its)) (subst (RestsAt m Stands dead e) (sym (ap (monitor_at monitors) mine ∙ at)) (resting.1, resting.2)))
              | inr other ↦ inl (subst (IsOn (card_at new k)) (sym letter) (on k (list_at old p).letter (λ is its. other its) was))
            ]
            | inr other ↦ inl (subst (IsOn (card_at new k)) (sym letter) (on k (list_at old p).letter (λ is its. other is) was))
          ]
          | inr rests ↦ inr (subst (λ (n : ℕ). RestsAt m Stands dead n (monitor_at monitors k)) (sym letter) rests)
        ];
  }

  -- a list more, of all monitors above its binding
  pub listed_made : (e : ℕ) (b : Binding) (slots : List ℕ) → AreVisited (has_all b) b monitors slots → ((k : ℕ) (s : Stored S) → Contains slots k → monitor_at monitors k ≡ Some s → is_below b s.instance ≡ true)
      → ((o : Occupants) → AreAllAbove o old b slots → AreSound o old → AreSound o new) → ((k d place : ℕ) → IsKept new place → IsOn (card_at old k) d → IsOn (card_at new k) d)
      → ((k place : ℕ) → IsKept new place → Contains slots k → IsOn (card_at new k) e) → ((place : ℕ) → IsKept new place → (list_at new place ≡ list_at old place) ⊎ IsListOf (list_at new place) e b)
      → AreListed m Stands dead monitors old → AreListed m Stands dead monitors new
  listed_made e b slots visit above sound on here lists listed = record {
    sound = sound (occupants_of monitors) (record {
      apart = visit.apart;
      each = λ k has.
          let (s, at, compatible) = visit.each k has in
          (occupant_for s.instance, occupant_some (monitor_at monitors k) s at, above k s has at, λ dies. absurd (false≢true dies));
      all = all;
    }) listed.sound;
    rested = made_rested (RestsIn m Stands dead monitors) (occupants_of monitors) old new e b slots listed.rested lists on here all;
  }
    where
      all : (k : ℕ) (x : Occupant) → occupants_of monitors k ≡ Some x → is_below b x.instance ≡ true → Contains slots k
      all k x at below =
          let (s, is, instance) = occupant_at (monitor_at monitors k) x at in
          let under : is_below b s.instance ≡ true = ap (is_below b) instance ∙ below in
          visit.all k s is (compatible_above b s.instance under) (eq-eqb (bit_and (mask_of b) (mask_of s.instance)) (mask_of b) (mask_within b s.instance under))

  -- the death of an object, whose monitors are in all lists
  pub listed_mourned : (o : ℕ) → AreStill None old new → AreSound (occupants_of monitors) new → ((k : ℕ) (s : Stored S) → monitor_at monitors k ≡ Some s → Binds s.instance o → IsInAll new k s.instance)
      → AreListed m Stands dead monitors old → AreListed m Stands (after_death dead o) monitors new
  listed_mourned o still sound told listed = record {
    sound = sound;
    rested = rested_still (RestsIn m Stands dead monitors) (RestsIn m Stands (after_death dead o) monitors) None (occupants_of monitors) (occupants_of monitors) old new still listed.rested (λ k x at.
        let (s, is, instance) = occupant_at (monitor_at monitors k) x at in
        elim (dec_in (objects_of s.instance) o) [
          | inl binds ↦ inr (λ place kept below. inl (told k s is (object-placed s.instance o binds) place kept (ap (is_below (list_at new place).binding) instance ∙ below)))
          | inr free ↦ inl (record {
            not_left = λ none. none-some k none;
            before = x;
            at = at;
            instance = refl;
            rests = λ e rests.
                let was : RestsAt m Stands dead e (Some s) = subst (RestsAt m Stands dead e) is rests in
                subst (RestsAt m Stands (after_death dead o) e) (sym is) (
                  was.0,
                  λ w stands cut.
                      let (q, among, live, dies) = cut_by_own_death-lem m w s.instance dead (after_death dead o) (was.1 w stands) cut in
                      elim (cases_eq q o) [
                        | inl same ↦ free (subst (λ (n : ℕ). Contains (objects_of s.instance) n) same among)
                        | inr other ↦ both_ways (is_dead_object dead q) live (sym (get_or-set_other dead o q true false other) ∙ dies)
                      ],
                );
          })
        ]);
  }

-- ---- the moves of all monitors above a binding, where the others rest
ask_known : (t r : Bool) → (t || (not true && r)) ≡ true → t ≡ true
ask_known true r h = refl
ask_known false r h = absurd (false≢true h)

module _ {S : Type 0} (b : Binding) (monitors : List (Option (Stored S))) where
  -- slots with monitors above the binding
  abbrev pub AreAbove : List ℕ → Type 0
  AreAbove slots = (k : ℕ) → Contains slots k → (s : Stored S) × (monitor_at monitors k ≡ Some s) × (is_below b s.instance ≡ true)

  above_compatible : (slots : List ℕ) → AreAbove slots → (k : ℕ) → Contains slots k → (s : Stored S) × (monitor_at monitors k ≡ Some s) × (is_compatible s.instance b ≡ true)
  above_compatible slots above k c = let (s, at, below) = above k c in (s, at, compatible_above b s.instance below)

  -- they are some of those that are compatible
  pub above_counted : (slots : List ℕ) → AllPairs (λ j k. j ≢ k) slots → AreAbove slots → length slots ≤ count_by (λ (s : Stored S). is_compatible s.instance b) (stored_in monitors)
  above_counted slots apart above = slots_counted monitors (λ s. is_compatible s.instance b) slots apart (above_compatible slots above)

  module _ (m : Meaning) (Stands : S → List ℕ → Type 0) (letter : ℕ) (dead : List Bool) (marks : List Binding) where
    abbrev Read : ℕ → Option (Move S) → Type 0
    Read k o = IsReadAt m Stands letter b dead marks monitors k o

    -- ---- the monitors that aren't listed, of the first n slots
    record IsUnread (slots : List ℕ) (n : ℕ) : Type 0 where
      list : List ℕ
      apart : AllPairs (λ j k. j ≢ k) list
      low : (k : ℕ) → Contains list k → k < n
      off : (k : ℕ) → Contains list k → Contains slots k → ⊥
      each : (k : ℕ) → Contains list k → (s : Stored S) × (monitor_at monitors k ≡ Some s) × IsAtRest m Stands letter b dead s
      all : (k : ℕ) (s : Stored S) → k < n → monitor_at monitors k ≡ Some s → is_below b s.instance ≡ true → Contains slots k ⊎ Contains list k

    unread : (slots : List ℕ) → AreOthersAtRest m Stands dead letter b slots monitors → (n : ℕ) → IsUnread slots n
    unread slots rest zero = record {
      list = [];
      apart = pairs_none (λ j k. j ≢ k);
      low = λ k none. absurd (Contains-none k none);
      off = λ k none. absurd (Contains-none k none);
      each = λ k none. absurd (Contains-none k none);
      all = λ k s lt. absurd (omega (arith, lt));
    }
    unread slots rest (suc n) = by (unread slots rest n) (monitor_at monitors n) refl
      where
        keep : IsUnread slots n → ((s : Stored S) → monitor_at monitors n ≡ Some s → is_below b s.instance ≡ true → Contains slots n) → IsUnread slots (suc n)
        keep u here = record {
          list = u.list;
          apart = u.apart;
          low = λ k c. let lt = u.low k c in omega (arith, lt);
          off = u.off;
          each = u.each;
          all = λ k s lt at below. elim (cases_eq k n) [
            | inl same ↦ inl (subst (λ (i : ℕ). Contains slots i) (sym same) (here s (subst (λ (i : ℕ). monitor_at monitors i ≡ Some s) same at) below))
            | inr other ↦ u.all k s (omega (arith, lt, other)) at below
          ];
        }

        add : IsUnread slots n → (s : Stored S) → monitor_at monitors n ≡ Some s → (Contains slots n → ⊥) → IsAtRest m Stands letter b dead s → IsUnread slots (suc n)
        add u s at absent resting = record {
          list = n ∷ u.list;
          apart = pairs_cons (λ j k. j ≢ k) n u.list (λ y c same. let lt = u.low y c in omega (arith, lt, same)) u.apart;
          low = λ k c. elim (Contains-cons_cases n u.list k c) [ inl same ↦ omega (arith, same) | inr later ↦ let lt = u.low k later in omega (arith, lt) ];
          off = λ k c there. elim (Contains-cons_cases n u.list k c) [ inl same ↦ absent (subst (λ (i : ℕ). Contains slots i) (sym same) there) | inr later ↦ u.off k later there ];
          each = λ k c. elim (Contains-cons_cases n u.list k c) [
            | inl same ↦ subst (λ (i : ℕ). (t : Stored S) × (monitor_at monitors i ≡ Some t) × IsAtRest m Stands letter b dead t) same (s, at, resting)
            | inr later ↦ u.each k later
          ];
          all = λ k t lt is below. elim (cases_eq k n) [
            | inl same ↦ inr (subst (λ (i : ℕ). Contains (n ∷ u.list) i) (sym same) (Contains-head n u.list))
            | inr other ↦ elim (u.all k t (omega (arith, lt, other)) is below) [ inl c ↦ inl c | inr c ↦ inr (Contains-cons n k u.list c) ]
          ];
        }

        one : IsUnread slots n → (s : Stored S) → monitor_at monitors n ≡ Some s → (Contains slots n → ⊥) → (is_below b s.instance ≡ true) ⊎ (is_below b s.instance ≡ false) → IsUnread slots (suc n)
        one u s at absent (inl below) = elim (rest n s at below) [ inl c ↦ absurd (absent c) | inr resting ↦ add u s at absent resting ]
        one u s at absent (inr apart) =
            keep u (λ t is below.
            let there : Some t ≡ Some s = sym is ∙ at in
            let same : t ≡ s = cc in
            absurd (both_ways (is_below b s.instance) apart (subst (λ (x : Stored S). is_below b x.instance ≡ true) same below)))

        by : IsUnread slots n → (x : Option (Stored S)) → monitor_at monitors n ≡ x → IsUnread slots (suc n)
        by u None at = keep u (λ s is below. absurd (none-some s (sym at ∙ is)))
        by u (Some s) at = elim (dec_in slots n) [ inl c ↦ keep u (λ t is below. c) | inr absent ↦ one u s at absent (cases_Bool (is_below b s.instance)) ]

    none_given : (list : List ℕ) → ((k : ℕ) → Contains list k → (s : Stored S) × (monitor_at monitors k ≡ Some s) × IsAtRest m Stands letter b dead s) → AreGiven Read list []
    none_given [] each = refl
    none_given (k ∷ list) each =
        let (s, at, resting) = each k (Contains-head k list) in
        (None, subst (λ (x : Option (Stored S)). IsReadIn m Stands letter b dead marks k x None) (sym at) (inr resting), ([], none_given list (λ j c. each j (Contains-cons k j list c)), refl))

    -- where the others are at rest, they are those of all slots
    pub listed_all : (ending slots : List ℕ) (moves : List (Move S)) → AllPairs (λ j k. j ≢ k) slots → AreAbove slots → AreGiven Read slots moves
        → AreOthersAtRest m Stands dead letter b slots monitors → AreMovesRead m Stands letter b dead marks (asks_by true ending letter b) monitors moves
    listed_all ending slots moves apart above given rest =
        let u = unread slots rest (length monitors) in
        record {
          slots = slots ++ u.list;
          visit = record {
            apart = pairs_append (λ j k. j ≢ k) slots u.list apart u.apart (λ j k cj ck same. u.off k ck (subst (λ (i : ℕ). Contains slots i) same cj));
            each = λ k c. elim (Contains-append_cases slots u.list k c) [
              | inl one ↦ above_compatible slots above k one
              | inr other ↦ let (s, at, resting) = u.each k other in (s, at, compatible_above b s.instance resting.0)
            ];
            all = λ k s at compatible ask.
                let has : has_all b (mask_of s.instance) ≡ true = ask_known (has_all b (mask_of s.instance)) (not (ends_all ending letter (mask_of s.instance))) ask in
                let below = below_within b s.instance compatible (all_within b (mask_of s.instance) has) in
                elim (u.all k s (within k s monitors at) at below) [
                  | inl listed ↦ Contains-append_left slots u.list k listed
                  | inr other ↦ Contains-append_right slots u.list k other
                ];
          };
          given = subst (λ (l : List (Move S)). AreGiven Read (slots ++ u.list) l) (append-nil moves) (given_append Read slots u.list moves [] given (none_given u.list u.each));
        }

    -- what is read of a monitor above b, which is a mark, is a move, or that it rests
    pub read_rests : (k : ℕ) (s : Stored S) → is_below b s.instance ≡ true → IsRead m Stands letter b dead marks k s None → IsAtRest m Stands letter b dead s
    read_rests k s below (inr resting) = resting
    read_rests k s below (inl (inl none)) = absurd (none (compatible_above b s.instance below, inl below))
    read_rests k s below (inl (inr (apart, over))) = absurd (both_ways (is_below b s.instance) apart below)

    -- where nothing moves, all above b rest
    pub none_rests : (ending : List ℕ) (moves : List (Move S)) → AreMovesRead m Stands letter b dead marks (asks_by true ending letter b) monitors moves → moves ≡ [] → Contains marks b
        → AreResting m Stands dead letter b (stored_in monitors) marks
    none_rests ending moves read none marked = record {
      marked = marked;
      each = λ s there below.
          let (k, at) = place_of monitors s there in
          let has = read.visit.all k s at (compatible_above b s.instance below) (asked_above true ending letter b s.instance below) in
          let (o, is, among) = given_all Read read.slots moves k read.given has in
          let resting = read_rests k s below (subst (λ (x : Option (Stored S)). IsReadIn m Stands letter b dead marks k x None) at (subst (λ (y : Option (Move S)). Read k y) (no_move o among) is)) in
          (resting.1, resting.2);
    }
      where
        no_move : (o : Option (Move S)) → ((y : Move S) → o ≡ Some y → Contains moves y) → o ≡ None
        no_move None among = refl
        no_move (Some y) among = absurd (Contains-none y (subst (λ (l : List (Move S)). Contains l y) none (among y refl)))

-- the monitors of a list's slots lie above its binding
pub listed_above : (m : Meaning) {S : Type 0} (Stands : S → List ℕ → Type 0) (dead : List Bool) (q : Option ℕ) (monitors : List (Option (Stored S))) (lists : Lists) (place e : ℕ) (b : Binding) → IsListOf (list_at lists place) e b
    → AreListedBut m Stands dead q monitors lists → AreAbove b monitors (slots_listed lists place)
listed_above m {S} Stands dead q monitors lists place e b of listed k has =
    let (x, among, slot) = Contains-from_map (λ (y : Listed). y.slot) (filter (is_there lists.cards) (list_at lists place).entries) k has in
    let (s, at, below) = listed_each m Stands dead q monitors lists place e b of listed x (filtered_from (is_there lists.cards) (list_at lists place).entries x among) (filtered_passes (is_there lists.cards) (list_at lists place).entries x among) in
    (s, subst (λ (n : ℕ). monitor_at monitors n ≡ Some s) slot at, below)

-- the event of a list can read its entries
pub listed_readable : (m : Meaning) {S : Type 0} (Stands : S → List ℕ → Type 0) (dead : List Bool) (monitors : List (Option (Stored S))) (lists : Lists) (place e : ℕ) (b : Binding) (marks : List Binding) (ending : List ℕ) (ends : ℕ)
    → HasList m Stands dead e b marks monitors lists place → ((k : ℕ) (s : Stored S) → monitor_at monitors k ≡ Some s → is_below b s.instance ≡ true → AreAmong ending (mask_of s.instance) ends)
    → AreReadable b e ending ends lists monitors (list_at lists place).entries
listed_readable m Stands dead monitors lists place e b marks ending ends list among = λ x has. (
  (list.listed.sound.each place x list.of_event.kept has).within,
  λ there.
      let (s, at, below) = listed_each m Stands dead None monitors lists place e b list.of_event list.listed x has there in
      let on = listed_on m Stands dead None monitors lists place e b list.of_event list.listed refl x has there in
      (on, (s, at, below, among x.slot s at below)),
)

-- what the event makes of the monitors of its list is all that it makes
pub listed_moves : (m : Meaning) {S : Type 0} (Stands : S → List ℕ → Type 0) (dead : List Bool) (monitors : List (Option (Stored S))) (lists : Lists) (place e : ℕ) (b : Binding) (marks : List Binding) (ending : List ℕ)
    → HasList m Stands dead e b marks monitors lists place → (moves : List (Move S)) → AreGiven (IsReadAt m Stands e b dead marks monitors) (slots_listed lists place) moves → AreMovesRead m Stands e b dead marks (asks_by true ending e b) monitors moves
listed_moves m Stands dead monitors lists place e b marks ending list moves given =
    listed_all b monitors m Stands e dead marks ending (slots_listed lists place) moves (listed_apart m Stands dead None monitors lists place e b list.of_event list.listed)
    (listed_above m Stands dead None monitors lists place e b list.of_event list.listed) given (listed_rest m Stands dead None monitors lists place e b list.of_event list.listed)

-- it has at most as many as are compatible with the event's binding
pub listed_counted : (m : Meaning) {S : Type 0} (Stands : S → List ℕ → Type 0) (dead : List Bool) (monitors : List (Option (Stored S))) (lists : Lists) (place e : ℕ) (b : Binding) (marks : List Binding)
    → HasList m Stands dead e b marks monitors lists place → length (slots_listed lists place) ≤ count_by (λ (s : Stored S). is_compatible s.instance b) (stored_in monitors)
listed_counted m Stands dead monitors lists place e b marks list =
    above_counted b monitors (slots_listed lists place) (listed_apart m Stands dead None monitors lists place e b list.of_event list.listed)
    (listed_above m Stands dead None monitors lists place e b list.of_event list.listed)

-- where the list at a place was tidied, lists that told of the monitors but for that one tell of them all
pub listed_tidied : (m : Meaning) {S : Type 0} (Stands : S → List ℕ → Type 0) (dead : List Bool) (monitors : List (Option (Stored S))) (place : ℕ) (old new : Lists)
    → ((q : Option ℕ) (o : Occupants) → (q ≡ None) ⊎ (q ≡ Some place) → AreSoundBut q o old → AreSound o new) → AreStill None old new → AreListedBut m Stands dead (Some place) monitors old → AreListed m Stands dead monitors new
listed_tidied m Stands dead monitors place old new sound still listed =
    listed_still m Stands dead (Some place) None monitors old new (sound (Some place) (occupants_of monitors) (inr refl) listed.sound) still listed

-- a move of a plan is for its slot
pub for_plan : {S : Type 0} (slots : List (Slot S)) (pairs : List Pair) (move : Move S) → IsHoused slots pairs → ((k : ℕ) → move.slot ≡ Some k → Contains pairs (record { binding = move.monitor.instance; slot = k }))
    → IsFor (monitors_of slots) move
for_plan slots pairs move housed leads k slot =
    let pair : Pair = record { binding = move.monitor.instance; slot = k } in
    let there = leads k slot in
    (housed_within slots pairs housed pair there, λ s at. sym (pair_by_slot slots pairs k s.instance housed (housed.paired k s at) pair there refl))

pub for_slots : {S : Type 0} (monitors : List (Option (Stored S))) (pairs : List Pair) (move : Move S) → AllPairs (λ a c. a.slot ≢ c.slot) pairs → ((pair : Pair) → Contains pairs pair → pair.slot < length monitors)
    → ((k : ℕ) (s : Stored S) → monitor_at monitors k ≡ Some s → Contains pairs (record { binding = s.instance; slot = k })) → ((k : ℕ) → move.slot ≡ Some k → Contains pairs (record { binding = move.monitor.instance; slot = k }))
    → IsFor monitors move
for_slots monitors pairs move apart low paired leads k slot =
    let pair : Pair = record { binding = move.monitor.instance; slot = k } in
    let there = leads k slot in (
      low pair there,
      λ s at.
          let other : Pair = record { binding = s.instance; slot = k } in
          ap (λ (p : Pair). p.binding) (same_one (λ (p : Pair). p.slot) pairs other pair apart (paired k s at) there refl),
    )

-- where a list has nothing, all above its binding rest
pub empty_rests : (m : Meaning) {S : Type 0} (Stands : S → List ℕ → Type 0) (dead : List Bool) (monitors : List (Option (Stored S))) (lists : Lists) (place e : ℕ) (b : Binding) (marks : List Binding) → IsListOf (list_at lists place) e b
    → AreListed m Stands dead monitors lists → (list_at lists place).entries ≡ [] → Contains marks b → AreResting m Stands dead e b (stored_in monitors) marks
empty_rests m {S} Stands dead monitors lists place e b marks of listed none marked = record {
  marked = marked;
  each = λ s there below.
      let (k, at) = place_of monitors s there in
      elim (listed_rest m Stands dead None monitors lists place e b of listed k s at below) [
        | inl has ↦ absurd (Contains-none k (subst (λ (l : List Listed). Contains (slots_there lists.cards l) k) none has))
        | inr rests ↦ (rests.1, rests.2)
      ];
}
