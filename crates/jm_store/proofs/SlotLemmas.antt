-- Slots and the monitors in them.
use Rattle.std.proofs.Common.{◌≡◌, ℕ, zero, suc, ◌+◌, ◌-◌, ◌<◌, ◌≤◌, List, [], ◌∷◌, ◌++◌, length, take, get_or, refl, sym, ap, ◌∙◌, subst, arith, append-nil}
use Rattle.std.specs.Prelude.{Option, Some, None, Contains, slice_set}
use Rattle.std.specs.List.{cons_option}
use Rattle.std.specs.Option.{option_to_list}
use Rattle.std.proofs.lemmas.List.{take_more, length_push, map-set, get_or-set_same, get_or-set_other}
use Rattle.jm_index.proofs.ReadLemmas.{Contains-none, Contains-cons}
use Rattle.jm_monitors.specs.declared.stored.Stored.{Stored}
use Rattle.jm_store.specs.declared.monitors.Slot.{Slot}
use Rattle.jm_store.specs.declared.monitors.Slot.TheVariants.{Free, Planned, Taken}
use Rattle.jm_store.specs.Slots.{monitor_in, count_in, IsUsed, slot_at, monitors_of, monitor_at, stored_in}

module _ {S : Type 0} where
  -- the monitor of a slot's number is that in the slot
  pub monitor_at-slot : (slots : List (Slot S)) (k : ℕ) → monitor_at (monitors_of slots) k ≡ monitor_in (slot_at slots k)
  monitor_at-slot [] k = refl
  monitor_at-slot (x ∷ slots) zero = refl
  monitor_at-slot (x ∷ slots) (suc k) = monitor_at-slot slots k

  -- a slot without a monitor that gets none
  pub stored_in-set : (monitors : List (Option (Stored S))) (k : ℕ) → monitor_at monitors k ≡ None → stored_in (slice_set monitors k None) ≡ stored_in monitors
  stored_in-set [] k none = refl
  stored_in-set (x ∷ monitors) zero none = ap (λ (o : Option (Stored S)). cons_option o (stored_in monitors)) (sym none)
  stored_in-set (x ∷ monitors) (suc k) none = ap (λ (l : List (Stored S)). cons_option x l) (stored_in-set monitors k none)

  pub stored_in-planned : (slots : List (Slot S)) (k : ℕ) (x : Slot S) → monitor_in x ≡ None → monitor_in (slot_at slots k) ≡ None
      → stored_in (monitors_of (slice_set slots k x)) ≡ stored_in (monitors_of slots)
  stored_in-planned slots k x none was =
      ap stored_in (map-set monitor_in slots k x ∙ ap (λ (o : Option (Stored S)). slice_set (monitors_of slots) k o) none)
      ∙ stored_in-set (monitors_of slots) k (monitor_at-slot slots k ∙ was)

  count_head : (x : Slot S) (rest : List (Stored S)) → length (cons_option (monitor_in x) rest) ≡ count_in x + length rest
  count_head (Free next) rest = omega arith
  count_head Planned rest = omega arith
  count_head (Taken s) rest = omega arith

  count_small : (x : Slot S) → count_in x ≤ 1
  count_small (Free next) = omega arith
  count_small Planned = omega arith
  count_small (Taken s) = omega arith

  -- how many monitors there are after a slot gets another content
  pub count_set : (slots : List (Slot S)) (k : ℕ) (x : Slot S) → k < length slots
      → length (stored_in (monitors_of (slice_set slots k x))) + count_in (slot_at slots k) ≡ length (stored_in (monitors_of slots)) + count_in x
  count_set [] k x low = absurd (omega (arith, low))
  count_set (y ∷ slots) zero x low = omega (arith, count_head x (stored_in (monitors_of slots)), count_head y (stored_in (monitors_of slots)))
  count_set (y ∷ slots) (suc k) x low =
      let ih = count_set slots k x (omega (arith, low)) in
      omega (arith, ih, count_head y (stored_in (monitors_of slots)), count_head y (stored_in (monitors_of (slice_set slots k x))))

  -- there are at most as many as slots, and at least as many as are in one slot
  pub count_few : (slots : List (Slot S)) → length (stored_in (monitors_of slots)) ≤ length slots
  count_few [] = omega arith
  count_few (y ∷ slots) = let ih = count_few slots in omega (arith, ih, count_head y (stored_in (monitors_of slots)), count_small y)

  pub count_there : (slots : List (Slot S)) (k : ℕ) → count_in (slot_at slots k) ≤ length (stored_in (monitors_of slots))
  count_there [] k = omega arith
  count_there (y ∷ slots) zero = omega (arith, count_head y (stored_in (monitors_of slots)))
  count_there (y ∷ slots) (suc k) = let ih = count_there slots k in omega (arith, ih, count_head y (stored_in (monitors_of slots)))

  -- fewer than slots, where one has none
  pub count_less : (slots : List (Slot S)) (k : ℕ) → k < length slots → length (stored_in (monitors_of slots)) + 1 ≤ length slots + count_in (slot_at slots k)
  count_less [] k low = absurd (omega (arith, low))
  count_less (y ∷ slots) zero low = omega (arith, count_few slots, count_head y (stored_in (monitors_of slots)))
  count_less (y ∷ slots) (suc k) low = let ih = count_less slots k (omega (arith, low)) in omega (arith, ih, count_head y (stored_in (monitors_of slots)), count_small y)

  -- what a count becomes that was right
  pub count_after : (slots : List (Slot S)) (k : ℕ) (x : Slot S) (taken n : ℕ) → k < length slots → n ≡ count_in (slot_at slots k) → taken ≡ length (stored_in (monitors_of slots))
      → taken - n + count_in x ≡ length (stored_in (monitors_of (slice_set slots k x)))
  count_after slots k x taken n low here is = let all = count_set slots k x low in let there = count_there slots k in omega (arith, all, there, here, is)

  pub stored_in-more : (slots : List (Slot S)) (x : Slot S) → stored_in (monitors_of (slots ++ x ∷ [])) ≡ stored_in (monitors_of slots) ++ option_to_list (monitor_in x)
  stored_in-more [] x = one (monitor_in x)
    where
      one : (o : Option (Stored S)) → cons_option o [] ≡ option_to_list o
      one None = refl
      one (Some s) = refl
  stored_in-more (y ∷ slots) x = behind (monitor_in y) (stored_in-more slots x)
    where
      behind : (o : Option (Stored S)) → stored_in (monitors_of (slots ++ x ∷ [])) ≡ stored_in (monitors_of slots) ++ option_to_list (monitor_in x)
          → cons_option o (stored_in (monitors_of (slots ++ x ∷ []))) ≡ cons_option o (stored_in (monitors_of slots)) ++ option_to_list (monitor_in x)
      behind None ih = ih
      behind (Some s) ih = ap (λ (l : List (Stored S)). s ∷ l) ih

  pub stored_in-take : (slots : List (Slot S)) (i : ℕ) (x : Slot S) → i < length slots → x ≡ get_or slots i x
      → stored_in (monitors_of (take (i + 1) slots)) ≡ stored_in (monitors_of (take i slots)) ++ option_to_list (monitor_in x)
  stored_in-take slots i x lt is =
      ap (λ (l : List (Slot S)). stored_in (monitors_of l)) (take_more slots i x lt ∙ ap (λ (y : Slot S). take i slots ++ y ∷ []) (sym is))
      ∙ stored_in-more (take i slots) x

  -- each monitor has a slot, and what is in a slot is a monitor
  pub stored_at : (monitors : List (Option (Stored S))) (k : ℕ) (s : Stored S) → monitor_at monitors k ≡ Some s → Contains (stored_in monitors) s
  stored_at [] k s is = cc
  stored_at (x ∷ monitors) zero s is = subst (λ (o : Option (Stored S)). Contains (cons_option o (stored_in monitors)) s) (sym is) (0, (omega arith), refl)
  stored_at (x ∷ monitors) (suc k) s is = behind x (stored_at monitors k s is)
    where
      behind : (o : Option (Stored S)) → Contains (stored_in monitors) s → Contains (cons_option o (stored_in monitors)) s
      behind None h = h
      behind (Some r) h = Contains-cons r s (stored_in monitors) h

  pub place_of : (monitors : List (Option (Stored S))) (s : Stored S) → Contains (stored_in monitors) s → (k : ℕ) × (monitor_at monitors k ≡ Some s)
  place_of [] s h = absurd (Contains-none s h)
  place_of (None ∷ monitors) s h = let (k, is) = place_of monitors s h in (suc k, is)
  place_of (Some r ∷ monitors) s (zero, l, same) = (0, ap (λ (x : Stored S). Some x) same)
  place_of (Some r ∷ monitors) s (suc j, l, same) = let (k, is) = place_of monitors s (j, (omega arith), same) in (suc k, is)

  -- a free slot has no monitor
  pub unused_none : (x : Slot S) → (IsUsed x → ⊥) → monitor_in x ≡ None
  unused_none (Free next) h = refl
  unused_none Planned h = refl
  unused_none (Taken s) h = absurd (h tt)

  pub slot_at-set_same : (slots : List (Slot S)) (k : ℕ) (x : Slot S) → k < length slots → slot_at (slice_set slots k x) k ≡ x
  slot_at-set_same slots k x lt = get_or-set_same slots k x (Free 0) lt

  pub slot_at-set_other : (slots : List (Slot S)) (k j : ℕ) (x : Slot S) → (j ≡ k → ⊥) → slot_at (slice_set slots k x) j ≡ slot_at slots j
  slot_at-set_other slots k j x ne = get_or-set_other slots k j x (Free 0) ne

  pub used_within : (slots : List (Slot S)) (k : ℕ) → IsUsed (slot_at slots k) → k < length slots
  used_within [] k h = absurd h
  used_within (x ∷ slots) zero h = omega arith
  used_within (x ∷ slots) (suc k) h = let lt = used_within slots k h in omega (arith, lt)

  taken_used : (x : Slot S) (s : Stored S) → monitor_in x ≡ Some s → IsUsed x
  taken_used (Free next) s is = cc
  taken_used Planned s is = tt
  taken_used (Taken r) s is = tt

  -- a slot with a monitor is used
  pub monitor_used : (slots : List (Slot S)) (k : ℕ) (s : Stored S) → monitor_at (monitors_of slots) k ≡ Some s → IsUsed (slot_at slots k)
  monitor_used slots k s is = taken_used (slot_at slots k) s (sym (monitor_at-slot slots k) ∙ is)

  pub not_taken : (x : Slot S) → ((s : Stored S) → x ≡ Taken s → ⊥) → monitor_in x ≡ None
  not_taken (Free next) h = refl
  not_taken Planned h = refl
  not_taken (Taken s) h = absurd (h s refl)

  -- the monitors of the slots up to the next
  pub stored_taken : (slots : List (Slot S)) (i : ℕ) (x : Slot S) (s : Stored S) → i < length slots → x ≡ get_or slots i x → x ≡ Taken s
      → stored_in (monitors_of (take (i + 1) slots)) ≡ stored_in (monitors_of (take i slots)) ++ s ∷ []
  stored_taken slots i x s lt is taken = stored_in-take slots i x lt is ∙ ap (λ (y : Slot S). stored_in (monitors_of (take i slots)) ++ option_to_list (monitor_in y)) taken

  pub stored_other : (slots : List (Slot S)) (i : ℕ) (x : Slot S) → i < length slots → x ≡ get_or slots i x → ((s : Stored S) → x ≡ Taken s → ⊥)
      → stored_in (monitors_of (take (i + 1) slots)) ≡ stored_in (monitors_of (take i slots))
  stored_other slots i x lt is other =
      stored_in-take slots i x lt is ∙ ap (λ (o : Option (Stored S)). stored_in (monitors_of (take i slots)) ++ option_to_list o) (not_taken x other)
      ∙ append-nil (stored_in (monitors_of (take i slots)))

  pub counted_taken : (slots : List (Slot S)) (i n : ℕ) (x : Slot S) (s : Stored S) → i < length slots → x ≡ get_or slots i x → x ≡ Taken s
      → n ≡ length (stored_in (monitors_of (take i slots))) → n + 1 ≡ length (stored_in (monitors_of (take (i + 1) slots)))
  counted_taken slots i n x s lt is taken count =
      ap (λ (j : ℕ). j + 1) count ∙ sym (length_push (stored_in (monitors_of (take i slots))) s) ∙ ap length (sym (stored_taken slots i x s lt is taken))
