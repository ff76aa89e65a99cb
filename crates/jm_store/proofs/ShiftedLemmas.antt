-- An event of which there is a list, done at once: what it comes to.
use Rattle.std.proofs.Common.{◌≡◌, ◌≢◌, ℕ, zero, suc, ◌⊎◌, inl, inr, Bool, true, false, cond, ◌+◌, ◌<◌, max, take, get_or, List, [], ◌∷◌, ◌++◌, length, refl, sym, ap, ◌∙◌, subst, arith}
use Rattle.std.specs.Prelude.{Option, Some, None, Contains, AllPairs, bit_or, slice_index_or}
use Rattle.std.specs.Int.{bit_at}
use Rattle.std.specs.List.Sorted.{IsPermutation}
use Rattle.std.proofs.lemmas.Bool.{false≢true, eqb-true}
use Rattle.std.proofs.lemmas.List.{take_more, same_lists, get_or_default}
use Rattle.std.proofs.lemmas.List.Elements.{Contains-append_cases, Contains-append_left, Contains-append_right}
use Rattle.std.proofs.lemmas.List.Sorted.{IsPermutation-refl, IsPermutation-sym, Contains-permutation}
use Rattle.std.proofs.lemmas.Nat.Bits.{bit_at-lt, bit_at_or}
use Rattle.std.proofs.lemmas.Option.{none-some, same_Some}
use Rattle.std.proofs.Math.Nat.{max_comm}
use Rattle.jm_model.specs.Bindings.{is_below, mask_of}
use Rattle.jm_model.specs.Meanings.{Meaning}
use Rattle.jm_model.specs.declared.binding.Binding.{Binding}
use Rattle.jm_model.specs.declared.firings.Firing.{Firing}
use Rattle.jm_semantics.specs.Traces.{ParametricEvent}
use Rattle.jm_semantics.proofs.ListLemmas.{Contains-map}
use Rattle.jm_awake.specs.Awake.{Lists, list_at, IsListOf}
use Rattle.jm_index.specs.Index.{Pair}
use Rattle.jm_index.proofs.ReadLemmas.{Contains-none}
use Rattle.jm_monitors.specs.declared.stored.Stored.{Stored}
use Rattle.jm_monitors.specs.Steps.{AreMarksAfter, IsOverAfter, IsReport}
use Rattle.jm_store.specs.declared.monitors.Slot.{Slot}
use Rattle.jm_store.specs.declared.monitors.Slot.TheVariants.{Free, Planned, Taken}
use Rattle.jm_store.specs.declared.moves.Move.{Move}
use Rattle.jm_store.specs.declared.walk.Shift.{Shift}
use Rattle.jm_store.specs.Slots.{IsUsed, monitor_in, monitors_of, monitor_at, slot_at}
use Rattle.jm_store.specs.Moves.{AreMovesRead, AreEnding, AreApart, AreParted, AreSifted, EndsFewer, IsReadAt, IsReadIn, after_move, after_moves, asks_by, ends_all, has_all, reached_by}
use Rattle.jm_store.specs.Contents.{Contents, stored_of, IsSpared, ArePlaced, ArePlacedOf, ArePaired, IsFilled, IsStoreAfter, IsEventDone}
use Rattle.jm_store.specs.Housing.{FitsTogether}
use Rattle.jm_store.specs.Listed.{AreListed, AreAtRest, AreOthersAtRest, slots_listed}
use Rattle.jm_store.specs.Plans.{CanPlan, IsApplied}
use Rattle.jm_store.specs.Walks.{HaveMonitors, IsShiftAt, AreShifted, IsAlike, AreAlike}
use Rattle.jm_store.proofs.AfterLemmas.{length-after}
use Rattle.jm_store.proofs.DirectLemmas.{spared_at_once, done_at_once, one_of}
use Rattle.jm_store.proofs.GivenLemmas.{Contains-from_map, given_each, pairs_map}
use Rattle.jm_store.proofs.ListedLemmas.{AreAbove, after_others, listed_above, listed_apart, listed_rest, listed_all}
use Rattle.jm_store.proofs.MoveLemmas.{move_base}
use Rattle.jm_store.proofs.PermuteLemmas.{pairs_permuted}
use Rattle.jm_store.proofs.PlacingLemmas.{placed_already}
use Rattle.jm_store.proofs.PlanningLemmas.{apart_moves, leads_moves, may_reach, sorted_distinct}
use Rattle.jm_store.proofs.RestingLemmas.{AreCompleted, completed, apart_left, distinct_left, pairs_across, pairs_right, given_append, placed_resting, report_beside}
use Rattle.jm_store.proofs.ShiftLemmas.{IsMadeBy, shifts_as_moves, shifts_apart, shifts_there, shifts_listed}
use Rattle.jm_store.proofs.SlotLemmas.{monitor_at-slot}

-- ---- how the store lies in memory, where slots have as much as they had
module _ {S : Type 0} (old new : List (Slot S)) (alike : AreAlike old new) where
  -- a monitor of a slot was there with its instance
  was_there : (k : ℕ) (t : Stored S) → monitor_at (monitors_of new) k ≡ Some t
      → (s : Stored S) × (monitor_at (monitors_of old) k ≡ Some s) × (s.instance ≡ t.instance)
  was_there k t at = by (slot_at old k) refl (alike.each k)
    where
      now : monitor_in (slot_at new k) ≡ Some t
      now = sym (monitor_at-slot new k) ∙ at

      by : (x : Slot S) → slot_at old k ≡ x → IsAlike x (slot_at new k)
          → (s : Stored S) × (monitor_at (monitors_of old) k ≡ Some s) × (s.instance ≡ t.instance)
      by (Free n) is same = absurd (none-some t (sym (ap monitor_in same) ∙ now))
      by Planned is same = absurd (none-some t (sym (ap monitor_in same) ∙ now))
      by (Taken s) is (u, same, instance) =
          let one : u ≡ t = same_Some u t (sym (ap monitor_in same) ∙ now) in
          (s, monitor_at-slot old k ∙ ap monitor_in is, sym instance ∙ ap (λ (x : Stored S). x.instance) one)

  -- a slot that had a monitor has one
  pub has_still : (k : ℕ) (s : Stored S) → monitor_at (monitors_of old) k ≡ Some s
      → (t : Stored S) × (monitor_at (monitors_of new) k ≡ Some t)
  has_still k s at = by (slot_at old k) refl (alike.each k)
    where
      was : monitor_in (slot_at old k) ≡ Some s
      was = sym (monitor_at-slot old k) ∙ at

      by : (x : Slot S) → slot_at old k ≡ x → IsAlike x (slot_at new k)
          → (t : Stored S) × (monitor_at (monitors_of new) k ≡ Some t)
      by (Free n) is same = absurd (none-some s (sym (ap monitor_in is) ∙ was))
      by Planned is same = absurd (none-some s (sym (ap monitor_in is) ∙ was))
      by (Taken r) is (u, same, instance) = (u, monitor_at-slot new k ∙ ap monitor_in same)

  used_still : (k : ℕ) → IsUsed (slot_at old k) → IsUsed (slot_at new k)
  used_still k used = by (slot_at old k) (alike.each k) used
    where
      by : (x : Slot S) → IsAlike x (slot_at new k) → IsUsed x → IsUsed (slot_at new k)
      by (Free n) same none = absurd none
      by Planned same used = subst IsUsed (sym same) tt
      by (Taken s) (u, same, instance) used = subst IsUsed (sym same) tt

  pub kept_alike : (pairs : List Pair) (domains : List ℕ) (is_open : Bool) (spare : ℕ)
      → FitsTogether old pairs domains is_open spare → FitsTogether new pairs domains is_open spare
  kept_alike pairs domains is_open spare h = record {
    housed = record {
      paired = λ k t at.
          let (s, was, same) = was_there k t at in
          subst (λ (b : Binding). Contains {X = Pair} pairs (record { binding = b; slot = k })) same (h.housed.paired k s was);
      used = λ pair there. used_still pair.slot (h.housed.used pair there);
      bindings = h.housed.bindings;
      slots_apart = h.housed.slots_apart;
    };
    domains = h.domains;
    settled = λ closed pair there. let (s, at) = h.settled closed pair there in has_still pair.slot s at;
    room = h.room;
  }

-- ---- lists that have the same at each place
same_all : {X : Type 0} (xs ys : List (Option X)) → length xs ≡ length ys
    → ((k : ℕ) → slice_index_or xs k None ≡ slice_index_or ys k None) → xs ≡ ys
same_all {X} xs ys size each = same_lists xs ys size by
  where
    by : (k : ℕ) (d : Option X) → k < length xs → get_or xs k d ≡ get_or ys k d
    by k d low = get_or_default xs k d None low ∙ each k ∙ sym (get_or_default ys k d None (omega (arith, size, low)))

after_append : {S : Type 0} (xs ys : List (Move S)) (monitors : List (Option (Stored S))) → after_moves (xs ++ ys) monitors ≡ after_moves xs (after_moves ys monitors)
after_append [] ys monitors = refl
after_append (x ∷ xs) ys monitors = ap (after_move x) (after_append xs ys monitors)

-- ---- what the event comes to
module _ (m : Meaning) {S : Type 0} (Stands : S → List ℕ → Type 0) (HasNumber : S → ℕ → Type 0) (letter : ℕ) (b : Binding)
    (dead : List Bool) (old : Contents S) (lists : Lists) (place : ℕ) (shifts : List Shift) (few : List (Move S))
    (of : IsListOf (list_at lists place) letter b) (listed : AreListed m Stands dead old.monitors lists)
    (parted : AreParted (IsShiftAt m Stands HasNumber letter dead b old.ending lists old.monitors)
    (IsReadAt m Stands letter b dead old.marks old.monitors) (slots_listed lists place) shifts few) where
  abbrev slots : List ℕ
  slots = parted.others ++ parted.told

  slots_apart : AllPairs (λ j k. j ≢ k) (parted.others ++ parted.told)
  slots_apart = pairs_permuted (λ j k. j ≢ k) (λ j k other same. other (sym same)) (slots_listed lists place) slots parted.all
      (listed_apart m Stands dead None old.monitors lists place letter b of listed)

  slots_above : AreAbove b old.monitors (parted.others ++ parted.told)
  slots_above k has = listed_above m Stands dead None old.monitors lists place letter b of listed k
      (Contains-permutation slots (slots_listed lists place) k (IsPermutation-sym (slots_listed lists place) slots parted.all) has)

  slots_rest : AreOthersAtRest m Stands dead letter b (parted.others ++ parted.told) old.monitors
  slots_rest k s at below = elim (listed_rest m Stands dead None old.monitors lists place letter b of listed k s at below) [
    | inl has ↦ inl (Contains-permutation (slots_listed lists place) slots k parted.all has)
    | inr rests ↦ inr rests
  ]

  pub parted_apart : AllPairs (λ x y. x.slot ≢ y.slot) shifts
  parted_apart = shifts_apart m Stands HasNumber letter dead b old.ending lists old.monitors parted.told shifts parted.given
      (pairs_right (λ j k. j ≢ k) parted.others parted.told slots_apart)

  pub parted_there : HaveMonitors shifts old.monitors
  parted_there = shifts_there m Stands HasNumber letter dead b old.ending lists old.monitors parted.told shifts parted.given

  module _ (mid : Contents S) (moved : AreShifted HasNumber shifts old.monitors mid.monitors) where
    pub parted_listed : AreListed m Stands dead mid.monitors lists
    parted_listed = shifts_listed m Stands HasNumber letter dead b old.ending lists old.monitors parted.told shifts parted.given mid.monitors moved listed

    module _ (can : CanPlan m dead letter b old) (known : Contains old.marks b) (paired : ArePaired old)
        (filled : (pair : Pair) → Contains old.index.list pair → IsFilled old pair) where
      both : (moves : List (Move S)) × IsMadeBy m Stands HasNumber letter dead b old.ending lists old.monitors parted.told shifts parted.given mid.monitors moved old.marks moves
      both = shifts_as_moves m Stands HasNumber letter dead b old.ending lists old.monitors parted.told shifts parted.given mid.monitors moved old.marks

      quiet : List (Move S)
      quiet = both.0

      made : IsMadeBy m Stands HasNumber letter dead b old.ending lists old.monitors parted.told shifts parted.given mid.monitors moved old.marks quiet
      unfolding quiet both
      made = both.1

      abbrev moves : List (Move S)
      moves = few ++ quiet

      abbrev asks : ℕ → Bool
      asks = asks_by true old.ending letter b

      read : AreMovesRead m Stands letter b dead old.marks (asks_by true old.ending letter b) old.monitors (few ++ quiet)
      read = listed_all b old.monitors m Stands letter dead old.marks old.ending slots moves slots_apart slots_above
          (given_append (IsReadAt m Stands letter b dead old.marks old.monitors) parted.others parted.told few quiet parted.read made.read) slots_rest

      full : AreCompleted m Stands letter b dead old.monitors old.marks (asks_by true old.ending letter b) (few ++ quiet)
      full = completed m Stands letter b dead old.monitors old.marks asks moves read

      apart : AreApart (few ++ quiet)
      apart = apart_left moves full.resting (apart_moves m Stands letter b dead old.marks asks old.monitors (moves ++ full.resting) full.all)

      leads : ArePlaced old (few ++ quiet)
      leads move k there slot = leads_moves m Stands letter b dead old.marks asks old.monitors (moves ++ full.resting) full.all old.index.list paired.paired move k
          (Contains-append_left moves full.resting move there) slot

      slotted : (move : Move S) → Contains (few ++ quiet) move → move.slot ≡ None → ⊥
      slotted move there none =
          let (k, visited, base) = move_base m Stands letter b dead old.marks old.monitors asks (moves ++ full.resting) full.all move (Contains-append_left moves full.resting move there) in
          elim base.moved.is_base.1 [
            | inl below ↦ none-some k (sym none ∙ base.moved.advanced.slot ∙ ap (λ (t : Bool). cond t (Some k) None) below)
            | inr fresh ↦ fresh.0 known
          ]

      placed : ArePlacedOf old old (few ++ quiet) (few ++ quiet) (few ++ quiet)
      placed = placed_already old moves apart leads filled slotted

      pub few_apart : AreApart few
      few_apart = apart_left few quiet apart

      pub few_lead : ArePlaced old few
      few_lead move k there slot = leads move k (Contains-append_left few quiet move there) slot

      module _ (new : Contents S) (applied : IsApplied m Stands few mid new) (index : mid.index ≡ old.index) (marks : mid.marks ≡ old.marks) (ending : mid.ending ≡ old.ending) where
        whole : new.monitors ≡ after_moves (few ++ quiet) old.monitors
        whole =
            let shifted : mid.monitors ≡ after_moves quiet old.monitors = same_all mid.monitors (after_moves quiet old.monitors)
            (moved.size ∙ sym (length-after quiet old.monitors)) (λ k. sym (made.same k)) in
            applied.monitors ∙ ap (after_moves few) shifted ∙ sym (after_append few quiet old.monitors)

        dropped : new.index.dropped ≡ old.index.dropped
        dropped = applied.dropped ∙ ap (λ i. i.dropped) index

        fewer : EndsFewer old.ending new.ending
        fewer = subst (λ (l : List ℕ). EndsFewer l new.ending) ending applied.fewer

        ending_moves : AreEnding m Stands new.ending (reached_by (few ++ quiet))
        ending_moves s among e ends_here =
            let (move, there, is) = Contains-from_map (λ (x : Move S). x.monitor) moves s among in
            elim (Contains-append_cases few quiet move there) [
              | inl one ↦ applied.ended s (subst (λ (x : Stored S). Contains (reached_by few) x) is (Contains-map (λ (x : Move S). x.monitor) few move one)) e ends_here
              | inr other ↦
                  let own = subst (λ (x : Stored S). ends_all old.ending e (mask_of x.instance) ≡ true) (sym is) (fewer e (mask_of s.instance) ends_here) in
                  subst (λ (x : Stored S). IsOverAfter m Stands e x.state 0) is (made.over move other e own)
            ]

        distinct : (trace : List ParametricEvent) → IsStoreAfter m Stands trace dead old → AllPairs (λ r s. r.instance ≢ s.instance) (reached_by few)
        distinct trace holds =
            let more = moves ++ full.resting in
            let order : IsPermutation more more = IsPermutation-refl more in
            let all_apart = apart_moves m Stands letter b dead old.marks asks old.monitors more full.all in
            let q = placed_resting m Stands letter b dead old old moves moves full.resting full.each (λ k. refl) placed all_apart paired in
            let may = may_reach m Stands letter b dead old.marks true old.ending (stored_of old) (λ yes. known) holds.ended in
            let all = sorted_distinct m Stands letter b dead asks old old more more more full.all may order q paired (λ k. refl) refl refl trace holds.monitors can.event in
            pairs_map (λ r s. r.instance ≢ s.instance) (λ (x : Move S). x.monitor) few (distinct_left few quiet (distinct_left moves full.resting all))

        pub parted_spared : IsSpared m Stands old → IsSpared m Stands new
        parted_spared =
            spared_at_once m Stands letter b dead true old old new moves moves [] (λ yes. known) read placed paired (λ k. refl) refl refl
            (λ o is. is) can.fits.index.reached whole dropped

        pub parted_marks : AreMarksAfter b old.marks new.marks
        parted_marks t =
            let same = applied.marks ∙ marks in (
              λ has. inl (subst (λ (l : List Binding). Contains l t) same has),
              λ either. subst (λ (l : List Binding). Contains l t) (sym same) (elim either [
                | inl before ↦ before
                | inr is ↦ subst (λ (x : Binding). Contains old.marks x) (sym is) known
              ]),
            )

        pub parted_done : (answer : List Firing) → (AllPairs (λ r s. r.instance ≢ s.instance) (reached_by few) → IsReport m Stands (reached_by few) answer)
            → (trace : List ParametricEvent) → IsStoreAfter m Stands trace dead old → IsEventDone m Stands trace dead letter b new answer
        parted_done answer report trace holds =
            done_at_once m Stands letter b dead true old old new moves moves answer (λ yes. known) read placed paired (λ k. refl) refl refl
            (λ o is. is) can.fits.index.reached whole dropped parted_marks fewer ending_moves
            (report_beside m Stands few quiet answer made.quiet (report (distinct trace holds))) trace can.event holds

-- ---- monitors that rest, beside others that the event changes
module _ (m : Meaning) {S : Type 0} (Stands : S → List ℕ → Type 0) (HasNumber : S → ℕ → Type 0) (letter : ℕ) (b : Binding)
    (dead : List Bool) (old : Contents S) (lists : Lists) (place : ℕ) (shifts : List Shift) (few : List (Move S))
    (rests : List ℕ) (of : IsListOf (list_at lists place) letter b) (listed : AreListed m Stands dead old.monitors lists)
    (sifted : AreSifted (IsShiftAt m Stands HasNumber letter dead b old.ending lists old.monitors)
    (IsReadAt m Stands letter b dead old.marks old.monitors) (slots_listed lists place) shifts few rests) where
  abbrev others : List ℕ
  others = sifted.others ++ sifted.told

  other_slots : (j k : ℕ) → Contains rests j → Contains (sifted.others ++ sifted.told) k → j ≢ k
  other_slots j k mine its = pairs_across (λ j k. j ≢ k) rests others
      (pairs_permuted (λ j k. j ≢ k) (λ j k other same. other (sym same)) (slots_listed lists place) (rests ++ others) sifted.all
      (listed_apart m Stands dead None old.monitors lists place letter b of listed)) j k mine its

  is_above : (k : ℕ) (s : Stored S) → Contains (sifted.others ++ sifted.told) k → monitor_at old.monitors k ≡ Some s → is_below b s.instance ≡ true
  is_above k s has at =
      let (t, there, below) = listed_above m Stands dead None old.monitors lists place letter b of listed k
      (Contains-permutation (rests ++ others) (slots_listed lists place) k (IsPermutation-sym (slots_listed lists place) (rests ++ others) sifted.all)
      (Contains-append_right rests others k has)) in
      subst (λ (x : Stored S). is_below b x.instance ≡ true) (same_Some t s (sym there ∙ at)) below

  not_shifted : (k : ℕ) → Contains rests k → (shift : Shift) → Contains shifts shift → shift.slot ≡ k → ⊥
  not_shifted k mine shift has same =
      let (j, among, (s, at, slot, is)) = given_each (IsShiftAt m Stands HasNumber letter dead b old.ending lists old.monitors) sifted.told shifts shift sifted.given has in
      other_slots k j mine (Contains-append_right sifted.others sifted.told j among) (sym same ∙ slot)

  not_moved : (k : ℕ) → Contains rests k → (move : Move S) → Contains few move → move.slot ≡ Some k → ⊥
  not_moved k mine move has slot =
      let (j, among, is) = given_each (IsReadAt m Stands letter b dead old.marks old.monitors) sifted.others few move sifted.read has in
      by j (Contains-append_left sifted.others sifted.told j among) (monitor_at old.monitors j) refl is
    where
      by : (j : ℕ) → Contains (sifted.others ++ sifted.told) j → (o : Option (Stored S)) → monitor_at old.monitors j ≡ o → IsReadIn m Stands letter b dead old.marks j o (Some move) → ⊥
      by j among None at is = none-some move (sym is)
      by j among (Some s) at is =
          let here : Some j ≡ Some k = sym (is.advanced.slot ∙ ap (λ (t : Bool). cond t (Some j) None) (is_above j s among at)) ∙ slot in
          other_slots k j mine among (sym (same_Some j k here))

  -- they still rest once the others were changed
  pub still_at_rest : (mid new : Contents S) → AreShifted HasNumber shifts old.monitors mid.monitors → IsApplied m Stands few mid new → AreAtRest m Stands letter b dead rests new.monitors
  still_at_rest mid new moved applied k mine =
      let (s, at, rest) = sifted.none k mine in
      let same : monitor_at new.monitors k ≡ monitor_at old.monitors k =
      ap (λ (l : List (Option (Stored S))). monitor_at l k) applied.monitors ∙ after_others few mid.monitors k (not_moved k mine) ∙ moved.others k (not_shifted k mine) in
      (s, same ∙ at, rest)

-- ---- letters that end all monitors of some set of parameters
either_bit : (a c e : ℕ) → (bit_at a e ≡ 1) ⊎ (bit_at c e ≡ 1) → bit_at (bit_or a c) e ≡ 1
either_bit a c e h =
    let same = bit_at_or a c e in
    let one = bit_at-lt a e in
    let two = bit_at-lt c e in
    elim h [
      | inl x ↦ same ∙ ap (λ (n : ℕ). max n (bit_at c e)) x ∙ max_one (bit_at c e) two
      | inr y ↦ same ∙ ap (λ (n : ℕ). max (bit_at a e) n) y ∙ max_comm (bit_at a e) 1 ∙ max_one (bit_at a e) one
    ]
  where
    max_one : (n : ℕ) → n < 2 → max 1 n ≡ 1
    max_one zero low = refl
    max_one (suc zero) low = refl
    max_one (suc (suc n)) low = absurd (omega (arith, low))

module _ (b : Binding) (ending domains : List ℕ) where
  -- the letters are all that end the monitors of one of these sets
  abbrev pub AreEndsOf : ℕ → List ℕ → Type 0
  AreEndsOf letters ds = (d : ℕ) → Contains ds d → has_all b d ≡ true → (e : ℕ) → ends_all ending e d ≡ true → bit_at letters e ≡ 1

  pub ends_none : (letters : ℕ) → AreEndsOf letters []
  ends_none letters d none = absurd (Contains-none d none)

  pub ends_next : (letters i : ℕ) → i < length domains → AreEndsOf letters (take i domains)
      → AreEndsOf (bit_or letters (get_or ending (get_or domains i 0) 0)) (take (i + 1) domains)
  ends_next letters i low before d has all e ends =
      elim (Contains-append_cases (take i domains) (get_or domains i 0 ∷ []) d
      (subst (λ (l : List ℕ). Contains l d) (take_more domains i 0 low) has)) [
        | inl old ↦ either_bit letters (get_or ending (get_or domains i 0) 0) e (inl (before d old all e ends))
        | inr new ↦
            let same = one_of (get_or domains i 0) d new in
            either_bit letters (get_or ending (get_or domains i 0) 0) e
            (inr (subst (λ (x : ℕ). bit_at (get_or ending x 0) e ≡ 1) (sym same) (eqb-true (bit_at (get_or ending d 0) e) 1 ends)))
      ]

  pub ends_passed : (letters i : ℕ) → i < length domains → has_all b (get_or domains i 0) ≡ false
      → AreEndsOf letters (take i domains) → AreEndsOf letters (take (i + 1) domains)
  ends_passed letters i low lacks before d has all e ends =
      elim (Contains-append_cases (take i domains) (get_or domains i 0 ∷ []) d
      (subst (λ (l : List ℕ). Contains l d) (take_more domains i 0 low) has)) [
        | inl old ↦ before d old all e ends
        | inr new ↦
            let same = one_of (get_or domains i 0) d new in
            absurd (false≢true (sym lacks ∙ ap (has_all b) same ∙ all))
      ]
