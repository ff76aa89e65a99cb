-- From the moves of an event to its plan.
use Rattle.std.proofs.Common.{◌≡◌, ◌≢◌, ℕ, ◌⊎◌, inl, inr, Bool, true, false, cond, List, [], ◌∷◌, ◌++◌, refl, sym, ap, ◌∙◌, subst, arith}
use Rattle.std.specs.Prelude.{Option, Some, None, Contains, IsTrue}
use Rattle.std.specs.List.Sorted.{IsPermutation}
use Rattle.std.proofs.lemmas.Bool.{both_ways, cases_Bool}
use Rattle.std.proofs.lemmas.Option.{same_Some, none-some}
use Rattle.std.proofs.lemmas.List.Sorted.{Contains-permutation, IsPermutation-sym}
use Rattle.std.proofs.lemmas.List.Elements.{Contains-append_left, Contains-push, Contains-push_cases}
use Rattle.jm_model.specs.Bindings.{is_below, join, mask_of}
use Rattle.jm_model.specs.Meanings.{Meaning}
use Rattle.jm_model.specs.declared.binding.Binding.{Binding}
use Rattle.jm_model.specs.declared.firings.Firing.{Firing}
use Rattle.jm_semantics.specs.Traces.{ParametricEvent}
use Rattle.jm_semantics.specs.Answers.{IsAnswer}
use Rattle.jm_semantics.proofs.ListLemmas.{Contains-map}
use Rattle.jm_semantics.proofs.BindingLemmas.{below-join_right, join-gives}
use Rattle.jm_marks.specs.Marks.{dead_mask_of}
use Rattle.jm_index.specs.Index.{Pair, AreBelow, IsFitting, flag_of}
use Rattle.jm_monitors.specs.declared.stored.Stored.{Stored}
use Rattle.jm_monitors.specs.Stores.{HasInstance, IsStoreOf}
use Rattle.jm_monitors.specs.Steps.{IsBase, IsOverAfter, AreReached, IsReport, IsLiveEvent, AreMarksAfter, NoneCutAbove, IsCutState, IsAliveState, AreSpared}
use Rattle.jm_monitors.proofs.BaseLemmas.{base_is_one-lem, made_is_new-lem}
use Rattle.jm_monitors.proofs.ReachLemmas.{report_is_answer-lem}
use Rattle.jm_monitors.proofs.EventLemmas.{event_keeps_store-lem}
use Rattle.jm_store.specs.declared.moves.Move.{Move}
use Rattle.jm_store.specs.declared.moves.Plan.{Plan}
use Rattle.jm_store.specs.Slots.{monitor_at, stored_in}
use Rattle.jm_store.specs.Moves.{IsOutcomeAt, IsAtRest, AreMovesOf, AreApart, reached_by, after_moves, AreEnding, EndsFewer, asks_by}
use Rattle.jm_store.specs.Contents.{Contents, stored_of, IsFit, IsSpared, IsStoreAfter, IsPlacedFrom, AreDistinct, ArePlacedOf, ArePaired, IsPlanFor, IsPlanOf, IsCarriedOut, with_ending}
use Rattle.jm_store.proofs.SlotLemmas.{stored_at, place_of}
use Rattle.jm_store.proofs.GivenLemmas.{given_pairs, pairs_map, pairs_weaker, Contains-from_map}
use Rattle.jm_store.proofs.HousingLemmas.{same_one}
use Rattle.jm_store.proofs.PermuteLemmas.{pairs_permuted}
use Rattle.jm_store.proofs.MoveLemmas.{base_of, move_base, becomes, are_reached, distinct_moves, join_above, compatible_above}
use Rattle.jm_store.proofs.VisitLemmas.{asked_above, asked_unless}
use Rattle.std.proofs.lemmas.Nat.Bits.{bit_at-zero}
use Rattle.jm_semantics.proofs.MaskLemmas.{IsWithin}
use Rattle.jm_semantics.proofs.MeaningLemmas.{cut-more_dead}
use Rattle.jm_store.proofs.AfterLemmas.{AreSingle, AreSlotted, after_event, in_after}
use Rattle.jm_store.proofs.SparedLemmas.{StayAlive, spared_after}

cond_slot : (t : Bool) (k n : ℕ) → cond t (Some k) None ≡ Some n → (t ≡ true) × (k ≡ n)
cond_slot true k n e = (refl, same_Some k n e)
cond_slot false k n e = absurd (none-some n e)

module _ (m : Meaning) {S : Type 0} (Stands : S → List ℕ → Type 0) (letter : ℕ) (b : Binding) (dead : List Bool) (marks : List Binding) (asks : ℕ → Bool) (monitors : List (Option (Stored S))) (moves : List (Move S))
    (all : AreMovesOf m Stands letter b dead marks asks monitors moves) where
  -- a move with a slot is of the monitor in it
  pub record HasSlot (move : Move S) (k : ℕ) : Type 0 where
    pub base : Stored S
    pub at : monitor_at monitors k ≡ Some base
    pub below : is_below b base.instance ≡ true
    pub same : move.monitor.instance ≡ base.instance

  pub slot_base : (move : Move S) (k : ℕ) → Contains moves move → move.slot ≡ Some k → HasSlot move k
  slot_base move k there slot =
      let (j, among, has) = move_base m Stands letter b dead marks monitors asks moves all move there in
      let both = cond_slot (is_below b has.base.instance) j k (sym has.moved.advanced.slot ∙ slot) in
      record {
        base = has.base;
        at = subst (λ (n : ℕ). monitor_at monitors n ≡ Some has.base) both.1 has.at;
        below = both.0;
        same = has.moved.advanced.instance ∙ join_above b has.base.instance has.moved.is_base.0 both.0;
      }

  pub apart_moves : AreApart moves
  apart_moves =
      given_pairs (IsOutcomeAt m Stands letter b dead marks monitors) (λ j k. j ≢ k) (λ x y. (n : ℕ) → x.slot ≡ Some n → y.slot ≡ Some n → ⊥) all.slots moves all.given all.visit.apart
      (λ j k x y ne mine other n at is.
      let p = base_of m Stands letter b dead marks monitors j x mine in
      let q = base_of m Stands letter b dead marks monitors k y other in
      ne ((cond_slot (is_below b p.base.instance) j n (sym p.moved.advanced.slot ∙ at)).1 ∙ sym (cond_slot (is_below b q.base.instance) k n (sym q.moved.advanced.slot ∙ is)).1))

  pub leads_moves : (pairs : List Pair) → ((k : ℕ) (s : Stored S) → monitor_at monitors k ≡ Some s → Contains pairs (record { binding = s.instance; slot = k })) → (move : Move S) (k : ℕ) → Contains moves move
      → move.slot ≡ Some k → Contains pairs (record { binding = move.monitor.instance; slot = k })
  leads_moves pairs paired move k there slot =
      let has = slot_base move k there slot in
      subst (λ (t : Binding). Contains {X = Pair} pairs (record { binding = t; slot = k })) (sym has.same) (paired k has.base has.at)

  pub moves_within : (n : ℕ) → ((s : Stored S) → Contains (stored_in monitors) s → AreBelow n s.instance) → AreBelow n b → (move : Move S) → Contains moves move → AreBelow n move.monitor.instance
  moves_within n stored mine move there =
      let (k, among, has) = move_base m Stands letter b dead marks monitors asks moves all move there in
      subst (AreBelow n) (sym has.moved.advanced.instance)
      (λ o binds. elim (join-gives has.base.instance b binds.0 o binds.1) [
        | inl left ↦ stored has.base (stored_at monitors k has.base has.at) o (binds.0, left)
        | inr right ↦ mine o (binds.0, right)
      ])

pub fit_same : {S : Type 0} (old new : Contents S) (dead : List Bool) → stored_of new ≡ stored_of old → new.marks ≡ old.marks → IsFitting new.index dead → IsFit old dead → IsFit new dead
fit_same {S} old new dead stored marks fits fit = record {
  instances = λ s there. fit.instances s (subst (λ (l : List (Stored S)). Contains l s) stored there);
  marks = λ b there. fit.marks b (subst (λ (l : List Binding). Contains l b) marks there);
  index = fits;
}

pub marks_push : (marks : List Binding) (b : Binding) → AreMarksAfter b marks (marks ++ b ∷ [])
marks_push marks b t = (
  (λ h. elim (Contains-push_cases marks b t h) [ inl before ↦ inl before | inr is ↦ inr (sym is) ]),
  (λ h. elim h [ inl before ↦ Contains-append_left marks (b ∷ []) t before | inr is ↦ subst (λ (x : Binding). Contains (marks ++ b ∷ []) x) (sym is) (Contains-push marks b) ]),
)

-- what stays of the placed moves isn't cut
pub stay_alive : (m : Meaning) {S : Type 0} (Stands : S → List ℕ → Type 0) (letter : ℕ) (b : Binding) (dead : List Bool) (marks : List Binding) (asks : ℕ → Bool) (monitors : List (Option (Stored S)))
    (old new : Contents S) (moves sorted placed : List (Move S)) → AreMovesOf m Stands letter b dead marks asks monitors moves → IsPermutation moves sorted → ArePlacedOf old new sorted sorted placed
    → StayAlive m Stands dead placed
stay_alive m {S} Stands letter b dead marks asks monitors old new moves sorted placed all order p move there stays =
    let (first, within, from, missed) = p.each move there in
    let (k, visited, base) = move_base m Stands letter b dead marks monitors asks moves all first (Contains-permutation sorted moves first (IsPermutation-sym moves sorted order) within) in
    subst (λ (x : Stored S). IsAliveState m Stands x.state (dead_mask_of dead x.instance)) (sym from.monitor)
    (subst (λ (t : Binding). IsAliveState m Stands first.monitor.state (dead_mask_of dead t)) (sym base.moved.advanced.instance) (base.moved.advanced.alive (sym from.stays ∙ stays)))

-- so what is left once they were carried out isn't cut by what the index dropped
pub spared_placed : (m : Meaning) {S : Type 0} (Stands : S → List ℕ → Type 0) (letter : ℕ) (b : Binding) (dead : List Bool) (asks : ℕ → Bool) (old new : Contents S) (moves sorted placed : List (Move S))
    → AreMovesOf m Stands letter b dead old.marks asks old.monitors moves → IsPermutation moves sorted → ArePlacedOf old new sorted sorted placed → IsSpared m Stands new
    → ((o : ℕ) → flag_of new.index.dropped o ≡ true → flag_of dead o ≡ true) → AreSpared m Stands new.index.dropped (stored_in (after_moves placed new.monitors))
spared_placed m Stands letter b dead asks old new moves sorted placed all order p spared dropped =
    spared_after m Stands new.index.dropped dead placed new.monitors dropped spared (stay_alive m Stands letter b dead old.marks asks old.monitors old new moves sorted placed all order p)

pub plan_leaves : (m : Meaning) {S : Type 0} (Stands : S → List ℕ → Type 0) (new after : Contents S) (ending : List ℕ) (placed : List (Move S)) (plan : Plan S)
    → AreSpared m Stands new.index.dropped (stored_in (after_moves placed new.monitors)) → after_moves plan.moves.items new.monitors ≡ after_moves placed new.monitors
    → IsCarriedOut (with_ending new ending) after plan → IsSpared m Stands after
plan_leaves m {S} Stands new after ending placed plan spared moves done =
    subst (λ (l : List (Option (Stored S))). AreSpared m Stands after.index.dropped (stored_in l)) (sym (done.monitors ∙ moves))
    (subst (λ (d : List Bool). AreSpared m Stands d (stored_in (after_moves placed new.monitors))) (sym done.dropped) spared)

-- in another order
pub apart_permuted : {S : Type 0} (xs ys : List (Move S)) → IsPermutation xs ys → AreApart xs → AreApart ys
apart_permuted xs ys p h = pairs_permuted (λ x y. (n : ℕ) → x.slot ≡ Some n → y.slot ≡ Some n → ⊥) (λ x y q n at is. q n is at) xs ys p h

pub distinct_permuted : {S : Type 0} (xs ys : List (Move S)) → IsPermutation xs ys → AreDistinct xs → AreDistinct ys
distinct_permuted xs ys p h = pairs_permuted (λ x y. x.monitor.instance ≢ y.monitor.instance) (λ x y q e. q (sym e)) xs ys p h

module _ (m : Meaning) {S : Type 0} (Stands : S → List ℕ → Type 0) (letter : ℕ) (b : Binding) (dead : List Bool) (asks : ℕ → Bool) (old new : Contents S) (moves sorted placed : List (Move S))
    (all : AreMovesOf m Stands letter b dead old.marks asks old.monitors moves) (may : (s : Stored S) → Contains (stored_of old) s → IsBase b old.marks s → (asks (mask_of s.instance) ≡ true) ⊎ ((is_below b s.instance ≡ false) × IsOverAfter m Stands letter s.state (dead_mask_of dead (join s.instance b)))) (order : IsPermutation moves sorted)
    (p : ArePlacedOf old new sorted sorted placed) (paired : ArePaired new) (same : (k : ℕ) → monitor_at new.monitors k ≡ monitor_at old.monitors k) (stored : stored_of new ≡ stored_of old) (marks_same : new.marks ≡ old.marks)
    (trace : List ParametricEvent) (store : IsStoreOf m Stands trace dead (stored_of old) old.marks) (live : IsLiveEvent m dead letter b) where
  single_new : AreSingle new.monitors
  single_new j k r s at is e =
      ap (λ (x : Pair). x.slot) (same_one (λ (x : Pair). x.binding) new.index.list (record { binding = r.instance; slot = j }) (record { binding = s.instance; slot = k }) paired.bindings (paired.paired j r at) (paired.paired k s is) e)

  single_old : AreSingle old.monitors
  single_old j k r s at is e = single_new j k r s (same j ∙ at) (same k ∙ is) e

  one_base : (r s : Stored S) → Contains (stored_of old) r → Contains (stored_of old) s → IsBase b old.marks r → IsBase b old.marks s → join r.instance b ≡ join s.instance b → r.instance ≡ s.instance
  one_base r s = base_is_one-lem m Stands trace dead (stored_of old) old.marks letter b r s store live

  reached : AreReached m Stands letter b dead (stored_of old) old.marks (reached_by moves)
  reached = are_reached m Stands letter b dead old.marks old.monitors asks moves all may one_base single_old

  distinct : AreDistinct moves
  distinct = distinct_moves m Stands letter b dead old.marks old.monitors asks moves all may one_base single_old

  from_sorted : (move : Move S) → Contains sorted move → Contains moves move
  from_sorted move there = Contains-permutation sorted moves move (IsPermutation-sym moves sorted order) there

  to_sorted : (move : Move S) → Contains moves move → Contains sorted move
  to_sorted move there = Contains-permutation moves sorted move order there

  -- ---- the sorted moves
  has_sorted : (t : Binding) → HasInstance (reached_by moves) t → HasInstance (reached_by sorted) t
  has_sorted t (r, there, is) =
      let (move, among, e) = Contains-from_map (λ (x : Move S). x.monitor) moves r there in
      (r, subst (λ (x : Stored S). Contains (reached_by sorted) x) e (Contains-map (λ (x : Move S). x.monitor) sorted move (to_sorted move among)), is)

  pub reached_sorted : AreReached m Stands letter b dead (stored_of old) old.marks (reached_by sorted)
  reached_sorted = record {
    distinct = pairs_map (λ r s. r.instance ≢ s.instance) (λ (x : Move S). x.monitor) sorted (distinct_permuted moves sorted order distinct);
    each = λ r there.
        let (move, among, e) = Contains-from_map (λ (x : Move S). x.monitor) sorted r there in
        reached.each r (subst (λ (x : Stored S). Contains (reached_by moves) x) e (Contains-map (λ (x : Move S). x.monitor) moves move (from_sorted move among)));
    moved = λ s there below. has_sorted s.instance (reached.moved s there below);
    made = λ s there apart base. elim (reached.made s there apart base) [ inl has ↦ inl (has_sorted (join s.instance b) has) | inr lost ↦ inr lost ];
  }

  pub answer_sorted : (firings : List Firing) → IsReport m Stands (reached_by sorted) firings → IsAnswer m trace (record { letter = letter; binding = b }) firings
  answer_sorted firings report = report_is_answer-lem m Stands trace dead (stored_of old) (reached_by sorted) old.marks letter b firings store live reached_sorted report

  -- ---- the placed moves
  record IsPlacedAt (move : Move S) : Type 0 where
    first : Move S
    among : Contains moves first
    from : IsPlacedFrom old first move
    slot : ℕ
    is : move.slot ≡ Some slot

  slot_or_none : (o : Option ℕ) → ((k : ℕ) × (o ≡ Some k)) ⊎ (o ≡ None)
  slot_or_none None = inr refl
  slot_or_none (Some k) = inl (k, refl)

  -- the new instance of a move without a slot isn't stored
  not_stored : (first : Move S) → Contains moves first → first.slot ≡ None → HasInstance (stored_of old) first.monitor.instance → ⊥
  not_stored first among none has =
      let (k, visited, base) = move_base m Stands letter b dead old.marks old.monitors asks moves all first among in
      let moved = base.moved in
      made_is_new-lem m Stands trace dead (stored_of old) old.marks letter b base.base store live (stored_at old.monitors k base.base base.at) moved.is_base (apart_from base.base (cases_Bool (is_below b base.base.instance)) k first.slot none moved.advanced.slot)
      (has.0, has.1, has.2 ∙ moved.advanced.instance)
    where
      apart_from : (s : Stored S) → (is_below b s.instance ≡ true) ⊎ (is_below b s.instance ≡ false) → (k : ℕ) → (o : Option ℕ) → o ≡ None → o ≡ cond (is_below b s.instance) (Some k) None → is_below b s.instance ≡ false
      apart_from s (inr e) k o none' slot = e
      apart_from s (inl e) k o none' slot = absurd (none-some k (sym none' ∙ slot ∙ ap (λ (t : Bool). cond t (Some k) None) e))

  -- each first move is placed, with a slot
  pub placed_at : (first : Move S) → Contains moves first → (move : Move S) × Contains placed move × IsPlacedFrom old first move × ((k : ℕ) × (move.slot ≡ Some k))
  placed_at first among =
      let (move, within, from, missed) = p.all first (to_sorted first among) in (
        move,
        within,
        from,
        elim (slot_or_none move.slot) [
          | inl has ↦ has
          | inr none ↦ absurd (no_slot move from missed none (slot_or_none first.slot))
        ],
      )
    where
      no_slot : (move : Move S) → IsPlacedFrom old first move → (AreDistinct sorted → move.slot ≡ None → HasInstance (stored_of old) first.monitor.instance) → move.slot ≡ None
          → ((k : ℕ) × (first.slot ≡ Some k)) ⊎ (first.slot ≡ None) → ⊥
      no_slot move from missed none (inl had) = none-some had.0 (sym none ∙ from.kept had.0 had.1)
      no_slot move from missed none (inr without) = not_stored first among without (missed (distinct_permuted moves sorted order distinct) none)

  -- each placed move has a slot, and a first one
  record IsOfFirst (move : Move S) : Type 0 where
    first : Move S
    among : Contains moves first
    from : IsPlacedFrom old first move
    missed : AreDistinct sorted → move.slot ≡ None → HasInstance (stored_of old) first.monitor.instance

  of_first : (move : Move S) → Contains placed move → IsOfFirst move
  of_first move there = let (first, within, from, missed) = p.each move there in record { first = first; among = from_sorted first within; from = from; missed = missed }

  two_placed : (x y : Move S) (j k : ℕ) → Contains placed x → Contains placed y → x.slot ≡ Some j → y.slot ≡ Some k → x.monitor.instance ≡ y.monitor.instance → j ≡ k
  two_placed x y j k cx cy at is e =
      ap (λ (q : Pair). q.slot)
      (same_one (λ (q : Pair). q.binding) new.index.list (record { binding = x.monitor.instance; slot = j }) (record { binding = y.monitor.instance; slot = k }) paired.bindings (p.leads x j cx at) (p.leads y k cy is) e)

  -- its monitor is one of the reached
  reached_first : (move : Move S) → Contains placed move → Contains (reached_by moves) move.monitor
  reached_first move there =
      let f = of_first move there in
      subst (λ (x : Stored S). Contains (reached_by moves) x) (sym f.from.monitor) (Contains-map (λ (x : Move S). x.monitor) moves f.first f.among)

  has_placed : (t : Binding) → HasInstance (reached_by moves) t → HasInstance (reached_by placed) t
  has_placed t (r, there, is) =
      let (first, among, e) = Contains-from_map (λ (x : Move S). x.monitor) moves r there in
      let (move, within, from, slot) = placed_at first among in
      (move.monitor, Contains-map (λ (x : Move S). x.monitor) placed move within, ap (λ (x : Stored S). x.instance) (from.monitor ∙ e) ∙ is)

  slot_of_placed : (move : Move S) → Contains placed move → (k : ℕ) × (move.slot ≡ Some k)
  slot_of_placed move there =
      elim (slot_or_none move.slot) [
        | inl has ↦ has
        | inr none ↦ absurd (no_slot move (of_first move there) none (slot_or_none (of_first move there).first.slot))
      ]
    where
      no_slot : (move : Move S) → (f : IsOfFirst move) → move.slot ≡ None → ((n : ℕ) × (f.first.slot ≡ Some n)) ⊎ (f.first.slot ≡ None) → ⊥
      no_slot move f none (inl had) = none-some had.0 (sym none ∙ f.from.kept had.0 had.1)
      no_slot move f none (inr without) = not_stored f.first f.among without (f.missed (distinct_permuted moves sorted order distinct) none)

  -- what becomes of the base's place
  slotted : AreSlotted m Stands b dead new.monitors placed
  slotted = record {
    apart = p.apart;
    slot = λ move there.
        let (k, is) = slot_of_placed move there in
        let f = of_first move there in
        (k, is, paired.within (record { binding = move.monitor.instance; slot = k }) (p.leads move k there is), λ s at. were move f k is s at (slot_or_none f.first.slot));
    above = λ k s at below.
        let here = sym (same k) ∙ at in
        let got = becomes m Stands letter b dead old.marks old.monitors asks moves all may k s here (compatible_above b s.instance below, inl below) in
        elim got [
          | inl some ↦
              let (move, within, from, slot) = placed_at some.0 some.1 in
              (move, within, from.kept k (some.2.advanced.slot ∙ ap (λ (t : Bool). cond t (Some k) None) below))
          | inr lost ↦ absurd (both_ways (is_below b s.instance) lost.0 below)
        ];
    below = λ move there.
        let f = of_first move there in
        let (k, visited, base) = move_base m Stands letter b dead old.marks old.monitors asks moves all f.first f.among in
        subst (λ (t : Binding). is_below b t ≡ true) (sym (ap (λ (x : Stored S). x.instance) f.from.monitor ∙ base.moved.advanced.instance))
        (below-join_right base.base.instance b base.moved.is_base.0);
    alive = λ move there stays.
        let f = of_first move there in
        let (k, visited, base) = move_base m Stands letter b dead old.marks old.monitors asks moves all f.first f.among in
        subst (λ (x : Stored S). IsAliveState m Stands x.state (dead_mask_of dead x.instance)) (sym f.from.monitor)
        (subst (λ (t : Binding). IsAliveState m Stands f.first.monitor.state (dead_mask_of dead t)) (sym base.moved.advanced.instance) (base.moved.advanced.alive (sym f.from.stays ∙ stays)));
    cut = λ move there goes.
        let f = of_first move there in
        let (k, visited, base) = move_base m Stands letter b dead old.marks old.monitors asks moves all f.first f.among in
        subst (λ (x : Stored S). IsCutState m Stands x.state (dead_mask_of dead x.instance)) (sym f.from.monitor)
        (subst (λ (t : Binding). IsCutState m Stands f.first.monitor.state (dead_mask_of dead t)) (sym base.moved.advanced.instance) (base.moved.advanced.cut (sym f.from.stays ∙ goes)));
    single = λ x y j k cx cy at is e. two_placed x y j k cx cy at is e;
  }
    where
      were : (move : Move S) → (f : IsOfFirst move) → (k : ℕ) → move.slot ≡ Some k → (s : Stored S) → monitor_at new.monitors k ≡ Some s → ((n : ℕ) × (f.first.slot ≡ Some n)) ⊎ (f.first.slot ≡ None)
          → is_below b s.instance ≡ true
      were move f k is s at (inl had) =
          let at_k : had.0 ≡ k = same_Some had.0 k (sym (f.from.kept had.0 had.1) ∙ is) in
          let has = slot_base m Stands letter b dead old.marks asks old.monitors moves all f.first had.0 f.among had.1 in
          let there : Some has.base ≡ Some s = sym has.at ∙ ap (monitor_at old.monitors) at_k ∙ sym (same k) ∙ at in
          let one : has.base ≡ s = cc in
          subst (λ (x : Stored S). is_below b x.instance ≡ true) one has.below
      were move f k is s at (inr without) = absurd (none-some s (sym (f.from.got k without is) ∙ sym (same k) ∙ at))

  reached_placed : AreReached m Stands letter b dead (stored_of old) old.marks (reached_by placed)
  reached_placed = record {
    distinct = pairs_map (λ r s. r.instance ≢ s.instance) (λ (x : Move S). x.monitor) placed
        (pairs_weaker (λ x y. (n : ℕ) → x.slot ≡ Some n → y.slot ≡ Some n → ⊥) (λ x y. x.monitor.instance ≢ y.monitor.instance) placed p.apart
        (λ x y cx cy ne e.
        let (j, at) = slot_of_placed x cx in
        let (k, is) = slot_of_placed y cy in
        ne j at (is ∙ ap (λ (n : ℕ). Some n) (sym (two_placed x y j k cx cy at is e)))));
    each = λ r there.
        let (move, among, e) = Contains-from_map (λ (x : Move S). x.monitor) placed r there in
        reached.each r (subst (λ (x : Stored S). Contains (reached_by moves) x) e (reached_first move among));
    moved = λ s there below. has_placed s.instance (reached.moved s there below);
    made = λ s there apart base. elim (reached.made s there apart base) [ inl has ↦ inl (has_placed (join s.instance b) has) | inr lost ↦ inr lost ];
  }

  pub carried_out : (marks : List Binding) → AreMarksAfter b old.marks marks
      → IsStoreOf m Stands (trace ++ record { letter = letter; binding = b } ∷ []) dead (stored_in (after_moves placed new.monitors)) marks × NoneCutAbove m Stands b dead (stored_in (after_moves placed new.monitors))
  carried_out marks added =
      let after = after_event m Stands b dead new.monitors placed slotted single_new in
      event_keeps_store-lem m Stands trace dead (stored_of old) (reached_by placed) (stored_in (after_moves placed new.monitors)) old.marks marks letter b store live reached_placed
      (rw stored at after) added

  -- the letters that end the monitors before the event and the moved ones end those after it
  pub ended_after : (ending : List ℕ) → EndsFewer old.ending ending → AreEnding m Stands old.ending (stored_of old) → AreEnding m Stands ending (reached_by placed) → AreEnding m Stands ending (stored_in (after_moves placed new.monitors))
  ended_after ending fewer before moved s there =
      elim ((after_event m Stands b dead new.monitors placed slotted single_new).each s there) [
        | inl one ↦ moved s one.0
        | inr kept ↦ λ e ends. before s (subst (λ (l : List (Stored S)). Contains l s) stored kept.0) e (fewer e (mask_of s.instance) ends)
      ]

  -- each monitor after the event is that of a move, or a stored one that it doesn't reach
  each_after : (s : Stored S) → Contains (stored_in (after_moves placed new.monitors)) s
      → ((move : Move S) × Contains placed move × (move.monitor ≡ s) × (move.stays ≡ true)) ⊎ (Contains (stored_in new.monitors) s × (is_below b s.instance ≡ false))
  each_after s there =
      let (k, at) = place_of (after_moves placed new.monitors) s there in
      elim (in_after m Stands b dead new.monitors placed slotted single_new k s at) [
        | inl moved ↦ inl (moved.move, moved.among, moved.monitor, moved.stays)
        | inr kept ↦ inr (stored_at new.monitors k s kept.0, kept.1)
      ]

  pub sorted_distinct : AreDistinct sorted
  sorted_distinct = distinct_permuted moves sorted order distinct

  -- the plan of the event
  pub plan_works : (firings : List Firing) → IsReport m Stands (reached_by sorted) firings → (plan : Plan S) → plan.binding ≡ b → after_moves plan.moves.items new.monitors ≡ after_moves placed new.monitors
      → ((move : Move S) → Contains placed move → Contains plan.moves.items move ⊎ (Contains (stored_of new) move.monitor × IsAtRest m Stands letter b dead move.monitor)) → plan.answer ≡ firings
      → (ending : List ℕ) → EndsFewer old.ending ending → AreEnding m Stands old.ending (stored_of old) → AreEnding m Stands ending (reached_by placed)
      → AreSpared m Stands new.index.dropped (stored_of new) → ((o : ℕ) → flag_of new.index.dropped o ≡ true → flag_of dead o ≡ true) → IsPlanOf m Stands trace dead letter (with_ending new ending) plan
  plan_works firings report plan is moves' real answer ending fewer before moved spared dropped = record {
    answer = rw (is, answer) (answer_sorted firings report);
    store = λ after done.
        let monitors : after.monitors ≡ after_moves placed new.monitors = done.monitors ∙ moves' in
        let marked : AreMarksAfter b old.marks after.marks = subst (λ (t : Binding). AreMarksAfter t old.marks after.marks) is (subst (λ (l : List Binding). AreMarksAfter plan.binding l after.marks) marks_same done.marks) in
        subst (λ (t : Binding). IsStoreAfter m Stands (trace ++ record { letter = letter; binding = t } ∷ []) dead after) (sym is)
        (record {
          monitors = subst (λ (l : List (Option (Stored S))). IsStoreOf m Stands (trace ++ record { letter = letter; binding = b } ∷ []) dead (stored_in l) after.marks) (sym monitors) (carried_out after.marks marked).0;
          ended = subst (λ (l : List (Option (Stored S))). AreEnding m Stands after.ending (stored_in l)) (sym monitors)
              (subst (λ (e : List ℕ). AreEnding m Stands e (stored_in (after_moves placed new.monitors))) (sym done.ending) (ended_after ending fewer before moved));
          spared = subst (λ (l : List (Option (Stored S))). AreSpared m Stands after.index.dropped (stored_in l)) (sym monitors)
              (subst (λ (d : List Bool). AreSpared m Stands d (stored_in (after_moves placed new.monitors))) (sym done.dropped)
              (spared_placed m Stands letter b dead asks old new moves sorted placed all order p spared dropped));
        });
    none_cut = rw (is, moves') (carried_out (old.marks ++ b ∷ []) (marks_push old.marks b)).1;
    each = rw (is, moves') (λ s there. elim (each_after s there) [
      | inl moved ↦ elim (real moved.0 moved.1) [
        | inl one ↦ inl (moved.0, one, moved.2, moved.3)
        | inr rest ↦ inr (inr (subst (λ (x : Stored S). Contains (stored_of new) x × IsAtRest m Stands letter b dead x) moved.2 rest))
      ]
      | inr kept ↦ inr (inl kept)
    ]);
  }

-- what an event may reach is asked for, unless the event ends it
pub may_reach : (m : Meaning) {S : Type 0} (Stands : S → List ℕ → Type 0) (letter : ℕ) (b : Binding) (dead : List Bool) (marks : List Binding) (known : Bool) (ending : List ℕ) (stored : List (Stored S))
    → (IsTrue known → Contains marks b) → AreEnding m Stands ending stored → (s : Stored S) → Contains stored s → IsBase b marks s
    → (asks_by known ending letter b (mask_of s.instance) ≡ true) ⊎ ((is_below b s.instance ≡ false) × IsOverAfter m Stands letter s.state (dead_mask_of dead (join s.instance b)))
may_reach m {S} Stands letter b dead marks known ending stored marked ended s there base =
    elim base.1 [
      | inl below ↦ inl (asked_above known ending letter b s.instance below)
      | inr fresh ↦ apart fresh.1 (cases_Bool known) fresh.0
    ]
  where
    none_dead : IsWithin 0 (dead_mask_of dead (join s.instance b))
    none_dead p = omega (arith, bit_at-zero p)

    apart : is_below b s.instance ≡ false → (known ≡ true) ⊎ (known ≡ false) → (Contains marks b → ⊥)
        → (asks_by known ending letter b (mask_of s.instance) ≡ true) ⊎ ((is_below b s.instance ≡ false) × IsOverAfter m Stands letter s.state (dead_mask_of dead (join s.instance b)))
    apart off (inl is) unmarked = absurd (unmarked (marked is))
    apart off (inr is) unmarked =
        elim (asked_unless known ending letter (mask_of s.instance) b is) [
          | inl ask ↦ inl ask
          | inr ends ↦ inr (
            off,
            λ w stands.
                let over = ended s there letter ends w stands in
                (over.0, cut-more_dead m (w ++ letter ∷ []) 0 (dead_mask_of dead (join s.instance b)) none_dead over.1),
          )
        ]

-- a plan is for the store with other letters too
pub plan_for_ending : {S : Type 0} (store : Contents S) (ending : List ℕ) (plan : Plan S) → IsPlanFor store plan → IsPlanFor (with_ending store ending) plan
plan_for_ending store ending plan h = record { twice = h.twice; known = h.known; apart = h.apart; placed = h.placed; filled = h.filled }
