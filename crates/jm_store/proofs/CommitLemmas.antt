-- A plan is carried out, move by move.
use Rattle.std.proofs.Common.{◌≡◌, ◌≢◌, ℕ, ◌<◌, ◌⊎◌, inl, inr, Bool, true, false, cond, List, [], ◌∷◌, ◌++◌, length, refl, sym, ap, ◌∙◌, subst, arith}
use Rattle.std.specs.Prelude.{Option, Some, None, Contains, AllPairs}
use Rattle.std.proofs.lemmas.Bool.{both_ways, cases_Bool}
use Rattle.std.proofs.lemmas.Option.{none-some}
use Rattle.std.proofs.lemmas.List.{length-map}
use Rattle.std.proofs.lemmas.List.Elements.{Contains-append_left, Contains-append_right, Contains-push, Contains-push_cases}
use Rattle.std.proofs.lemmas.List.Sorted.{Contains-permutation, IsPermutation-sym}
use Rattle.std.specs.List.{list_any}
use Rattle.std.specs.List.Sorted.{IsPermutation}
use Rattle.jm_model.specs.declared.binding.Binding.{Binding}
use Rattle.jm_model.specs.Layout.{binding_eq}
use Rattle.jm_model.proofs.EqLemmas.{found-Contains, Contains-found}
use Rattle.jm_semantics.proofs.ListLemmas.{Contains-cons_cases}
use Rattle.jm_index.specs.Index.{Pair, without}
use Rattle.jm_index.proofs.IndexLemmas.{without_absent}
use Rattle.jm_index.proofs.ReadLemmas.{Contains-none}
use Rattle.jm_monitors.specs.declared.stored.Stored.{Stored}
use Rattle.jm_monitors.specs.Steps.{AreMarksAfter}
use Rattle.jm_store.specs.declared.monitors.Slot.{Slot}
use Rattle.jm_store.specs.declared.moves.Move.{Move}
use Rattle.jm_store.specs.Slots.{monitor_in, monitor_at, monitors_of}
use Rattle.jm_store.specs.Moves.{AreApart, after_move, after_moves, pairs_at, pairs_after}
use Rattle.jm_store.specs.Contents.{Contents, IsFilled, IsPlannedBy, ArePlaced}
use Rattle.jm_store.specs.Housing.{IsHoused}
use Rattle.jm_store.proofs.SlotLemmas.{used_within}
use Rattle.jm_store.proofs.HousingLemmas.{same_one, in_without, from_without}
use Rattle.jm_store.proofs.AfterLemmas.{moved_here, moved_other, slot_is}
use Rattle.jm_store.proofs.GivenLemmas.{pairs_head, pairs_tail, pairs_none, pairs_cons}

pub pairs_front : {X : Type 0} (Q : X → X → Type 0) (xs : List X) (x : X) → AllPairs Q (xs ++ x ∷ []) → AllPairs Q xs
pairs_front Q [] x h = pairs_none Q
pairs_front Q (y ∷ xs) x h =
    pairs_cons Q y xs (λ z there. pairs_head Q y (xs ++ x ∷ []) h z (Contains-append_left xs (x ∷ []) z there)) (pairs_front Q xs x (pairs_tail Q y (xs ++ x ∷ []) h))

pub pairs_last : {X : Type 0} (Q : X → X → Type 0) (xs : List X) (x : X) → AllPairs Q (xs ++ x ∷ []) → (y : X) → Contains xs y → Q y x
pairs_last Q [] x h y there = absurd (Contains-none y there)
pairs_last {X} Q (z ∷ xs) x h y there =
    elim (Contains-cons_cases z xs y there) [
      | inl same ↦ subst (λ (v : X). Q v x) same (pairs_head Q z (xs ++ x ∷ []) h x (Contains-push xs x))
      | inr later ↦ pairs_last Q xs x (pairs_tail Q z (xs ++ x ∷ []) h) y later
    ]

pub marks_added : (marks new : List Binding) (b : Binding) → (Contains marks b → new ≡ marks) → ((Contains marks b → ⊥) → IsPermutation (b ∷ marks) new) → AreMarksAfter b marks new
marks_added marks new b known unknown = by (cases_Bool (list_any (binding_eq b) marks))
  where
    by : (list_any (binding_eq b) marks ≡ true) ⊎ (list_any (binding_eq b) marks ≡ false) → AreMarksAfter b marks new
    by (inl found) =
        let there = found-Contains marks b found in
        let same = known there in
        λ t. (
          (λ h. inl (subst (λ (l : List Binding). Contains l t) same h)),
          (λ h. subst (λ (l : List Binding). Contains l t) (sym same) (elim h [ inl before ↦ before | inr is ↦ subst (Contains marks) (sym is) there ])),
        )
    by (inr none) =
        let grown = unknown (λ there. both_ways (list_any (binding_eq b) marks) none (Contains-found marks b there)) in
        λ t. (
          (λ h. elim (Contains-cons_cases b marks t (Contains-permutation new (b ∷ marks) t (IsPermutation-sym (b ∷ marks) new grown) h)) [ inl is ↦ inr (sym is) | inr before ↦ inl before ]),
          (λ h. Contains-permutation (b ∷ marks) new t grown (elim h [ inl before ↦ Contains-append_right (b ∷ []) marks t before | inr is ↦ (0, omega arith, sym is) ])),
        )

module _ {S : Type 0} where
  pub after_none : (moves : List (Move S)) (monitors : List (Option (Stored S))) → length moves ≡ 0 → after_moves moves monitors ≡ monitors
  after_none [] monitors none = refl
  after_none (x ∷ moves) monitors none = absurd (omega (arith, none))

  pub after_push : (moves : List (Move S)) (step : Move S) (monitors : List (Option (Stored S))) → after_moves (moves ++ step ∷ []) monitors ≡ after_moves moves (after_move step monitors)
  after_push [] step monitors = refl
  after_push (x ∷ moves) step monitors = ap (after_move x) (after_push moves step monitors)

  pub housed_within : (slots : List (Slot S)) (pairs : List Pair) → IsHoused slots pairs → (pair : Pair) → Contains pairs pair → pair.slot < length (monitors_of slots)
  housed_within slots pairs h pair there = let lt = used_within slots pair.slot (h.used pair there) in omega (arith, lt, length-map slots monitor_in)

  module _ (old new : Contents S) (rest : List (Move S)) (step : Move S) (bindings : AllPairs (λ a b. a.binding ≢ b.binding) old.index.list) (slots : AllPairs (λ a b. a.slot ≢ b.slot) old.index.list)
      (within : (pair : Pair) → Contains old.index.list pair → pair.slot < length old.monitors) (apart : AreApart (rest ++ step ∷ [])) (leads : ArePlaced old (rest ++ step ∷ []))
      (monitors : new.monitors ≡ after_move step old.monitors) (pairs : new.index.list ≡ pairs_after step old.index.list) where
    keeps_pairs : (o : Option ℕ) (t : Bool) (pair : Pair) → ((k : ℕ) → o ≡ Some k → t ≡ false → pair.binding ≡ step.monitor.instance → ⊥) → Contains old.index.list pair
        → Contains (pairs_at o (cond t old.index.list (without step.monitor.instance old.index.list)) old.index.list) pair
    keeps_pairs None t pair other there = there
    keeps_pairs (Some k) true pair other there = there
    keeps_pairs (Some k) false pair other there = in_without step.monitor.instance old.index.list pair there (other k refl refl)

    from_pairs : (o : Option ℕ) (t : Bool) (pair : Pair) → Contains (pairs_at o (cond t old.index.list (without step.monitor.instance old.index.list)) old.index.list) pair → Contains old.index.list pair
    from_pairs None t pair there = there
    from_pairs (Some k) true pair there = there
    from_pairs (Some k) false pair there = from_without step.monitor.instance old.index.list pair there

    gone_pair : (o : Option ℕ) (t : Bool) (k : ℕ) (pair : Pair) → o ≡ Some k → t ≡ false → Contains (pairs_at o (cond t old.index.list (without step.monitor.instance old.index.list)) old.index.list) pair
        → pair.binding ≡ step.monitor.instance → ⊥
    gone_pair None t k pair is goes there same = none-some k is
    gone_pair (Some j) true k pair is goes there same = both_ways true goes refl
    gone_pair (Some j) false k pair is goes there same = without_absent step.monitor.instance old.index.list pair there same

    pub leads_on : ArePlaced new rest
    leads_on move k there slot =
        let mine = leads move k (Contains-append_left rest (step ∷ []) move there) slot in
        subst (λ (l : List Pair). Contains l (record { binding = move.monitor.instance; slot = k })) (sym pairs)
        (keeps_pairs step.slot step.stays (record { binding = move.monitor.instance; slot = k })
        (λ j is goes same.
        let other = leads step j (Contains-push rest step) is in
        let one = same_one (λ (p : Pair). p.binding) old.index.list (record { binding = move.monitor.instance; slot = k }) (record { binding = step.monitor.instance; slot = j }) bindings mine other same in
        pairs_last (λ x y. (n : ℕ) → x.slot ≡ Some n → y.slot ≡ Some n → ⊥) rest step apart move there k slot (is ∙ ap (λ (p : Pair). Some p.slot) (sym one))) mine)

    here : (pair : Pair) → Contains new.index.list pair → Contains old.index.list pair → step.slot ≡ Some pair.slot → IsFilled new pair
    here pair there before is =
        let mine = leads step pair.slot (Contains-push rest step) is in
        let one = same_one (λ (p : Pair). p.slot) old.index.list pair (record { binding = step.monitor.instance; slot = pair.slot }) slots before mine refl in
        let same : pair.binding ≡ step.monitor.instance = ap (λ (p : Pair). p.binding) one in
        split (cases_Bool step.stays) same
      where
        at : monitor_at new.monitors pair.slot ≡ cond step.stays (Some step.monitor) None
        at = ap (λ (l : List (Option (Stored S))). monitor_at l pair.slot) monitors ∙ moved_here step.slot (cond step.stays (Some step.monitor) None) old.monitors pair.slot is (within pair before)

        split : (step.stays ≡ true) ⊎ (step.stays ≡ false) → pair.binding ≡ step.monitor.instance → IsFilled new pair
        split (inl stays) same = (step.monitor, at ∙ ap (λ (t : Bool). cond t (Some step.monitor) None) stays, sym same)
        split (inr goes) same = absurd (gone_pair step.slot step.stays pair.slot pair is goes (subst (λ (l : List Pair). Contains l pair) pairs there) same)

    pub filled_on : ((pair : Pair) → Contains old.index.list pair → IsFilled old pair ⊎ IsPlannedBy (rest ++ step ∷ []) pair) → (pair : Pair) → Contains new.index.list pair
        → IsFilled new pair ⊎ IsPlannedBy rest pair
    filled_on filled pair there =
        let before = from_pairs step.slot step.stays pair (subst (λ (l : List Pair). Contains l pair) pairs there) in
        elim (slot_is step.slot pair.slot) [
          | inl is ↦ inl (here pair there before is)
          | inr other ↦ elim (filled pair before) [
            | inl full ↦
                inl (full.0, ap (λ (l : List (Option (Stored S))). monitor_at l pair.slot) monitors ∙ moved_other step.slot (cond step.stays (Some step.monitor) None) old.monitors pair.slot other ∙ full.1, full.2)
            | inr planned ↦ elim (Contains-push_cases rest step planned.0 planned.1) [
              | inl among ↦ inr (planned.0, among, planned.2, planned.3)
              | inr same ↦ absurd (other (ap (λ (x : Move S). x.slot) same ∙ planned.2))
            ]
          ]
        ]

  -- where no move is left, none is for a pair
  pub unplanned : (moves : List (Move S)) (pair : Pair) → length moves ≡ 0 → IsPlannedBy moves pair → ⊥
  unplanned moves pair none planned = let lt : planned.1.0 < length moves = planned.1.1 in omega (arith, none, lt)

  pub apart_front : (rest : List (Move S)) (step : Move S) → AreApart (rest ++ step ∷ []) → AreApart rest
  apart_front rest step apart = pairs_front (λ x y. (k : ℕ) → x.slot ≡ Some k → y.slot ≡ Some k → ⊥) rest step apart
