-- How a store lies in memory after each step of a call.
use Rattle.std.proofs.Common.{◌≡◌, ◌≢◌, ℕ, ◌<◌, ◌≤◌, ◌⊎◌, inl, inr, not, List, [], ◌∷◌, ◌++◌, length, get_or, sym, ap, ◌∙◌, subst, arith}
use Rattle.std.specs.Prelude.{Some, None, Contains, slice_set, AllPairs}
use Rattle.std.proofs.lemmas.Bool.{cases_lt, cases_eq, cases_order, false_from_ne_true}
use Rattle.std.proofs.lemmas.Option.{none-some}
use Rattle.std.proofs.lemmas.List.{set_past, get_or_default}
use Rattle.std.proofs.lemmas.List.Elements.{Contains-append_left, Contains-push_cases, Contains-get_or}
use Rattle.std.proofs.lemmas.List.Kept.{AllPairs-filter}
use Rattle.std.proofs.lemmas.List.Quantifiers.{all_pairs_push}
use Rattle.jm_model.specs.Bindings.{mask_of}
use Rattle.jm_model.specs.declared.binding.Binding.{Binding}
use Rattle.jm_index.specs.Index.{Pair, is_same, without}
use Rattle.jm_semantics.proofs.ListLemmas.{Contains-filter}
use Rattle.jm_index.proofs.ReadLemmas.{Contains-of_filter}
use Rattle.jm_index.proofs.BindingLemmas.{is_same-true}
use Rattle.jm_index.proofs.IndexLemmas.{without_absent}
use Rattle.jm_monitors.specs.declared.stored.Stored.{Stored}
use Rattle.jm_store.specs.declared.monitors.Slot.{Slot}
use Rattle.jm_store.specs.declared.monitors.Slot.TheVariants.{Free, Taken}
use Rattle.jm_store.specs.Slots.{monitor_in, IsUsed, slot_at, monitors_of, monitor_at, IsReserved}
use Rattle.jm_store.specs.Housing.{IsHoused, AreDomains}
use Rattle.jm_store.proofs.SlotLemmas.{monitor_at-slot, slot_at-set_same, slot_at-set_other, used_within, monitor_used, unused_none}

-- two elements of a list of distinct ones that share what is distinct are one
pub same_one : {X Y : Type 0} (f : X → Y) (xs : List X) (x y : X) → AllPairs (λ a b. f a ≢ f b) xs → Contains xs x → Contains xs y → f x ≡ f y → x ≡ y
same_one {X} {Y} f xs x y apart (j, lj, ej) (k, lk, ek) same =
    elim (cases_order j k) [
      | inl is ↦ sym ej ∙ ap (λ (n : ℕ). get_or xs n x) is ∙ other x y k lk ∙ ek
      | inr (inl lt) ↦ absurd (apart j k x lt lk (ap f ej ∙ same ∙ ap f (sym (other x y k lk ∙ ek))))
      | inr (inr lt) ↦ absurd (apart k j y lt lj (ap f ek ∙ sym same ∙ ap f (sym (other y x j lj ∙ ej))))
    ]
  where
    other : (d e : X) (n : ℕ) → n < length xs → get_or xs n d ≡ get_or xs n e
    other d e n lt = get_or_default xs n d e lt

pub in_without : (t : Binding) (pairs : List Pair) (pair : Pair) → Contains pairs pair → (pair.binding ≡ t → ⊥) → Contains (without t pairs) pair
in_without t pairs pair there other =
    Contains-filter (λ (p : Pair). not (is_same t p.binding)) pairs pair there
    (ap not (false_from_ne_true (is_same t pair.binding) (λ same. other (sym (is_same-true t pair.binding same)))))

pub from_without : (t : Binding) (pairs : List Pair) (pair : Pair) → Contains (without t pairs) pair → Contains pairs pair
from_without t pairs pair there = Contains-of_filter (λ (p : Pair). not (is_same t p.binding)) pairs pair there

module _ {S : Type 0} where
  -- a monitor of a pair's instance in its slot
  pub housed_put : (slots : List (Slot S)) (pairs : List Pair) (k : ℕ) (s : Stored S) → IsHoused slots pairs → Contains pairs (record { binding = s.instance; slot = k })
      → IsHoused (slice_set slots k (Taken s)) pairs
  housed_put slots pairs k s h there = record {
    paired = λ j r is. elim (cases_eq j k) [
      | inl same ↦
          let within = used_within slots k (h.used (record { binding = s.instance; slot = k }) there) in
          let mine : Some s ≡ Some r = ap monitor_in (sym (slot_at-set_same slots k (Taken s) within)) ∙ ap (λ (n : ℕ). monitor_in (slot_at (slice_set slots k (Taken s)) n)) (sym same)
          ∙ sym (monitor_at-slot (slice_set slots k (Taken s)) j) ∙ is in
          let one : s ≡ r = cc in
          subst (λ (x : Stored S). Contains pairs (record { binding = x.instance; slot = j })) one (subst (λ (n : ℕ). Contains pairs (record { binding = s.instance; slot = n })) (sym same) there)
      | inr other ↦ h.paired j r (monitor_at-slot slots j ∙ ap monitor_in (sym (slot_at-set_other slots k j (Taken s) other)) ∙ sym (monitor_at-slot (slice_set slots k (Taken s)) j) ∙ is)
    ];
    used = λ pair within. elim (cases_eq pair.slot k) [
      | inl same ↦
          let fits = used_within slots pair.slot (h.used pair within) in
          subst (λ (n : ℕ). IsUsed (slot_at (slice_set slots k (Taken s)) n)) (sym same)
          (subst IsUsed (sym (slot_at-set_same slots k (Taken s) (subst (λ (n : ℕ). n < length slots) same fits))) tt)
      | inr other ↦ subst IsUsed (sym (slot_at-set_other slots k pair.slot (Taken s) other)) (h.used pair within)
    ];
    bindings = h.bindings;
    slots_apart = h.slots_apart;
  }

  -- a slot is freed, and the pair that led to it taken out
  pub housed_gone : (slots : List (Slot S)) (pairs : List Pair) (k n : ℕ) (t : Binding) → IsHoused slots pairs
      → ((pair : Pair) → Contains pairs pair → pair.slot ≡ k → pair.binding ≡ t) → ((pair : Pair) → Contains pairs pair → pair.binding ≡ t → pair.slot ≡ k)
      → IsHoused (slice_set slots k (Free n)) (without t pairs)
  housed_gone slots pairs k n t h to of = record {
    paired = λ j r is. elim (cases_eq j k) [
      | inl same ↦ absurd (emptied (cases_lt k (length slots)) j r same is)
      | inr other ↦
          let there = h.paired j r (monitor_at-slot slots j ∙ ap monitor_in (sym (slot_at-set_other slots k j (Free n) other)) ∙ sym (monitor_at-slot (slice_set slots k (Free n)) j) ∙ is) in
          in_without t pairs (record { binding = r.instance; slot = j }) there (λ same. other (of (record { binding = r.instance; slot = j }) there same))
    ];
    used = λ pair within.
        let there = from_without t pairs pair within in
        let other : pair.slot ≡ k → ⊥ = λ same. without_absent t pairs pair within (to pair there same) in
        subst IsUsed (sym (slot_at-set_other slots k pair.slot (Free n) other)) (h.used pair there);
    bindings = AllPairs-filter (λ a b. a.binding ≢ b.binding) (λ (p : Pair). not (is_same t p.binding)) pairs h.bindings;
    slots_apart = AllPairs-filter (λ a b. a.slot ≢ b.slot) (λ (p : Pair). not (is_same t p.binding)) pairs h.slots_apart;
  }
    where
      emptied : (k < length slots) ⊎ (length slots ≤ k) → (j : ℕ) (r : Stored S) → j ≡ k → monitor_at (monitors_of (slice_set slots k (Free n))) j ≡ Some r → ⊥
      emptied (inl lt) j r same is =
          none-some r (ap monitor_in (sym (slot_at-set_same slots k (Free n) lt)) ∙ ap (λ (i : ℕ). monitor_in (slot_at (slice_set slots k (Free n)) i)) (sym same)
          ∙ sym (monitor_at-slot (slice_set slots k (Free n)) j) ∙ is)
      emptied (inr le) j r same is =
          let at : monitor_at (monitors_of slots) j ≡ Some r = ap (λ (l : List (Slot S)). monitor_at (monitors_of l) j) (sym (set_past slots k (Free n) le)) ∙ is in
          let lt = used_within slots j (monitor_used slots j r at) in
          omega (arith, lt, le, same)

  -- both pairs that share a slot or a binding with one of the index are that one
  pub pair_by_slot : (slots : List (Slot S)) (pairs : List Pair) (k : ℕ) (t : Binding) → IsHoused slots pairs → Contains pairs (record { binding = t; slot = k })
      → (pair : Pair) → Contains pairs pair → pair.slot ≡ k → pair.binding ≡ t
  pair_by_slot slots pairs k t h there pair within same =
      ap (λ (p : Pair). p.binding) (same_one (λ (p : Pair). p.slot) pairs pair (record { binding = t; slot = k }) h.slots_apart within there same)

  pub pair_by_binding : (slots : List (Slot S)) (pairs : List Pair) (k : ℕ) (t : Binding) → IsHoused slots pairs → Contains pairs (record { binding = t; slot = k })
      → (pair : Pair) → Contains pairs pair → pair.binding ≡ t → pair.slot ≡ k
  pair_by_binding slots pairs k t h there pair within same =
      ap (λ (p : Pair). p.slot) (same_one (λ (p : Pair). p.binding) pairs pair (record { binding = t; slot = k }) h.bindings within there same)

  -- no pair leads to a slot that was free
  pub reserved_apart : (slots new : List (Slot S)) (pairs : List Pair) (k : ℕ) → IsHoused slots pairs → IsReserved slots new k → (pair : Pair) → Contains pairs pair → pair.slot ≡ k → ⊥
  reserved_apart slots new pairs k h r pair within same = r.unused (subst (λ (n : ℕ). IsUsed (slot_at slots n)) same (h.used pair within))

  pub reserved_monitors : (slots new : List (Slot S)) (k : ℕ) → IsReserved slots new k → (j : ℕ) → monitor_at (monitors_of new) j ≡ monitor_at (monitors_of slots) j
  reserved_monitors slots new k r j =
      monitor_at-slot new j
      ∙ elim (cases_eq j k) [
        | inl same ↦ subst (λ (n : ℕ). monitor_in (slot_at new n) ≡ monitor_in (slot_at slots n)) (sym same) (ap monitor_in r.here ∙ sym (unused_none (slot_at slots k) r.unused))
        | inr other ↦ ap monitor_in (r.others j other)
      ]
      ∙ sym (monitor_at-slot slots j)

  -- a slot is planned for a new pair
  pub housed_planned : (slots new : List (Slot S)) (pairs : List Pair) (k : ℕ) (t : Binding) → IsHoused slots pairs → IsReserved slots new k → ((pair : Pair) → Contains pairs pair → pair.binding ≡ t → ⊥)
      → IsHoused new (pairs ++ record { binding = t; slot = k } ∷ [])
  housed_planned slots new pairs k t h r absent = record {
    paired = λ j s is. Contains-append_left pairs (record { binding = t; slot = k } ∷ []) (record { binding = s.instance; slot = j }) (h.paired j s (sym (reserved_monitors slots new k r j) ∙ is));
    used = λ pair within. elim (Contains-push_cases pairs (record { binding = t; slot = k }) pair within) [
      | inl before ↦ subst IsUsed (sym (r.others pair.slot (reserved_apart slots new pairs k h r pair before))) (h.used pair before)
      | inr same ↦ subst (λ (p : Pair). IsUsed (slot_at new p.slot)) same (subst IsUsed (sym r.here) tt)
    ];
    bindings = all_pairs_push (λ a b. a.binding ≢ b.binding) pairs (record { binding = t; slot = k }) h.bindings (λ i d lt. absent (get_or pairs i d) (Contains-get_or pairs i d lt));
    slots_apart = all_pairs_push (λ a b. a.slot ≢ b.slot) pairs (record { binding = t; slot = k }) h.slots_apart (λ i d lt. reserved_apart slots new pairs k h r (get_or pairs i d) (Contains-get_or pairs i d lt));
  }

  -- a slot without a monitor is freed
  pub emptied_monitors : (slots : List (Slot S)) (k n : ℕ) → monitor_in (slot_at slots k) ≡ None → (j : ℕ) → monitor_at (monitors_of (slice_set slots k (Free n))) j ≡ monitor_at (monitors_of slots) j
  emptied_monitors slots k n none j =
      monitor_at-slot (slice_set slots k (Free n)) j
      ∙ elim (cases_eq j k) [
        | inl same ↦ subst (λ (i : ℕ). monitor_in (slot_at (slice_set slots k (Free n)) i) ≡ monitor_in (slot_at slots i)) (sym same) (set_none (cases_lt k (length slots)))
        | inr other ↦ ap monitor_in (slot_at-set_other slots k j (Free n) other)
      ]
      ∙ sym (monitor_at-slot slots j)
    where
      set_none : (k < length slots) ⊎ (length slots ≤ k) → monitor_in (slot_at (slice_set slots k (Free n)) k) ≡ monitor_in (slot_at slots k)
      set_none (inl lt) = ap monitor_in (slot_at-set_same slots k (Free n) lt) ∙ sym none
      set_none (inr le) = ap (λ (l : List (Slot S)). monitor_in (slot_at l k)) (set_past slots k (Free n) le)

  pub released_monitors : (slots new : List (Slot S)) (k n : ℕ) → IsReserved slots new k → (j : ℕ) → monitor_at (monitors_of (slice_set new k (Free n))) j ≡ monitor_at (monitors_of slots) j
  released_monitors slots new k n r j =
      emptied_monitors new k n (ap monitor_in r.here) j ∙ reserved_monitors slots new k r j

  -- the slot is freed again, where the pair couldn't be added
  pub housed_released : (slots new : List (Slot S)) (pairs : List Pair) (k n : ℕ) → IsHoused slots pairs → IsReserved slots new k → IsHoused (slice_set new k (Free n)) pairs
  housed_released slots new pairs k n h r = record {
    paired = λ j s is. h.paired j s (sym (released_monitors slots new k n r j) ∙ is);
    used = λ pair within.
        let other = reserved_apart slots new pairs k h r pair within in
        subst IsUsed (sym (slot_at-set_other new k pair.slot (Free n) other ∙ r.others pair.slot other)) (h.used pair within);
    bindings = h.bindings;
    slots_apart = h.slots_apart;
  }

-- more sets of parameters
pub domains_more : (ds es : List ℕ) (pairs : List Pair) → AreDomains ds pairs → AllPairs (λ a b. a ≢ b) es → ((d : ℕ) → Contains ds d → Contains es d) → AreDomains es pairs
domains_more ds es pairs h apart kept = record { distinct = apart; listed = λ pair within. kept (mask_of pair.binding) (h.listed pair within) }

pub domains_added : (ds : List ℕ) (pairs : List Pair) (t : Binding) (k : ℕ) → AreDomains ds pairs → Contains ds (mask_of t) → AreDomains ds (pairs ++ record { binding = t; slot = k } ∷ [])
domains_added ds pairs t k h there = record {
  distinct = h.distinct;
  listed = λ pair within. elim (Contains-push_cases pairs (record { binding = t; slot = k }) pair within) [
    | inl before ↦ h.listed pair before
    | inr same ↦ subst (λ (p : Pair). Contains ds (mask_of p.binding)) same there
  ];
}

pub domains_without : (ds : List ℕ) (pairs : List Pair) (t : Binding) → AreDomains ds pairs → AreDomains ds (without t pairs)
domains_without ds pairs t h = record { distinct = h.distinct; listed = λ pair within. h.listed pair (from_without t pairs pair within) }
