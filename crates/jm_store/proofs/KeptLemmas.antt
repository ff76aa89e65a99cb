-- What lies in memory still fits together after a move.
use Rattle.std.proofs.Common.{◌≡◌, ◌≢◌, ℕ, Bool, true, false, List, [], ◌∷◌, ◌++◌, refl, sym, ap, ◌∙◌, arith, inl, inr}
use Rattle.std.specs.Prelude.{Some, None, Contains, slice_set, AllPairs}
use Rattle.std.proofs.lemmas.Bool.{both_ways, false≢true, cases_eq}
use Rattle.std.proofs.lemmas.Option.{none-some}
use Rattle.jm_model.specs.Bindings.{mask_of}
use Rattle.jm_index.proofs.ReadLemmas.{Contains-none}
use Rattle.jm_index.proofs.IndexLemmas.{without_absent}
use Rattle.jm_model.specs.declared.binding.Binding.{Binding}
use Rattle.jm_index.specs.Index.{Pair, without}
use Rattle.jm_monitors.specs.declared.stored.Stored.{Stored}
use Rattle.jm_store.specs.declared.monitors.Slot.{Slot}
use Rattle.jm_store.specs.declared.monitors.Slot.TheVariants.{Free, Planned, Taken}
use Rattle.jm_store.specs.Slots.{monitor_in, IsUsed, slot_at, monitors_of, monitor_at, stored_in, IsReserved}
use Rattle.jm_store.specs.Housing.{IsHoused, FitsTogether}
use Rattle.jm_store.proofs.SlotLemmas.{monitor_at-slot, slot_at-set_same, slot_at-set_other, used_within, monitor_used, unused_none, stored_in-planned}
use Rattle.jm_store.proofs.HousingLemmas.{housed_put, housed_gone, housed_planned, housed_released, domains_more, domains_added, domains_without, pair_by_slot, pair_by_binding, from_without}

module _ {S : Type 0} where
  -- a monitor is put into the slot of its pair
  pub kept_put : (slots : List (Slot S)) (pairs : List Pair) (domains : List ℕ) (open' : Bool) (spare k : ℕ) (s : Stored S) → FitsTogether slots pairs domains open' spare
      → Contains pairs (record { binding = s.instance; slot = k }) → FitsTogether (slice_set slots k (Taken s)) pairs domains open' spare
  kept_put slots pairs domains open' spare k s h there = record {
    housed = housed_put slots pairs k s h.housed there;
    domains = h.domains;
    settled = λ no pair within. elim (cases_eq pair.slot k) [
      | inl same ↦ (
        s,
        monitor_at-slot (slice_set slots k (Taken s)) pair.slot ∙ ap (λ (n : ℕ). monitor_in (slot_at (slice_set slots k (Taken s)) n)) same
            ∙ ap monitor_in (slot_at-set_same slots k (Taken s) (used_within slots k (h.housed.used (record { binding = s.instance; slot = k }) there))),
      )
      | inr other ↦ let (r, is) = h.settled no pair within in (
        r,
        monitor_at-slot (slice_set slots k (Taken s)) pair.slot ∙ ap monitor_in (slot_at-set_other slots k pair.slot (Taken s) other)
            ∙ sym (monitor_at-slot slots pair.slot) ∙ is,
      )
    ];
    room = h.room;
  }

  -- nothing is in memory
  pub kept_vacant : (spare : ℕ) → FitsTogether {S = S} [] [] [] false spare
  kept_vacant spare = record {
    housed = record { paired = λ k s is. absurd (none-some s is); used = λ pair within. absurd (Contains-none pair within); bindings = λ i j d lt within. absurd (omega (arith, lt, within)); slots_apart = λ i j d lt within. absurd (omega (arith, lt, within)) };
    domains = record { distinct = λ i j d lt within. absurd (omega (arith, lt, within)); listed = λ pair within. absurd (Contains-none pair within) };
    settled = λ no pair within. absurd (Contains-none pair within);
    room = λ is. absurd (false≢true is);
  }

  -- a slot is planned for a new pair
  pub kept_planned : (slots new : List (Slot S)) (pairs : List Pair) (ds es : List ℕ) (open' : Bool) (spare k : ℕ) (t : Binding) → open' ≡ true → FitsTogether slots pairs ds open' spare
      → IsReserved slots new k → ((pair : Pair) → Contains pairs pair → pair.binding ≡ t → ⊥) → AllPairs (λ a b. a ≢ b) es → ((d : ℕ) → Contains ds d → Contains es d) → Contains es (mask_of t)
      → FitsTogether new (pairs ++ record { binding = t; slot = k } ∷ []) es open' spare
  kept_planned slots new pairs ds es open' spare k t is h r absent apart more there = record {
    housed = housed_planned slots new pairs k t h.housed r absent;
    domains = domains_added es pairs t k (domains_more ds es pairs h.domains apart more) there;
    settled = λ no. absurd (both_ways open' no is);
    room = h.room;
  }

  -- a slot is planned, and freed again
  pub kept_released : (slots new : List (Slot S)) (pairs : List Pair) (ds es : List ℕ) (open' : Bool) (spare k n : ℕ) → open' ≡ true → FitsTogether slots pairs ds open' spare
      → IsReserved slots new k → AllPairs (λ a b. a ≢ b) es → ((d : ℕ) → Contains ds d → Contains es d)
      → FitsTogether (slice_set new k (Free n)) pairs es open' spare
  kept_released slots new pairs ds es open' spare k n is h r apart more = record {
    housed = housed_released slots new pairs k n h.housed r;
    domains = domains_more ds es pairs h.domains apart more;
    settled = λ no. absurd (both_ways open' no is);
    room = h.room;
  }

  -- only sets of parameters are more
  pub kept_listed : (slots : List (Slot S)) (pairs : List Pair) (ds es : List ℕ) (open' : Bool) (spare : ℕ) → FitsTogether slots pairs ds open' spare
      → AllPairs (λ a b. a ≢ b) es → ((d : ℕ) → Contains ds d → Contains es d) → FitsTogether slots pairs es open' spare
  kept_listed slots pairs ds es open' spare h apart more = record { housed = h.housed; domains = domains_more ds es pairs h.domains apart more; settled = h.settled; room = h.room }

  -- a planned slot is freed, and its pair taken out
  pub kept_taken_back : (slots : List (Slot S)) (pairs : List Pair) (domains : List ℕ) (open' : Bool) (spare k n : ℕ) (t : Binding) → open' ≡ true → FitsTogether slots pairs domains open' spare
      → ((pair : Pair) → Contains pairs pair → pair.slot ≡ k → pair.binding ≡ t) → ((pair : Pair) → Contains pairs pair → pair.binding ≡ t → pair.slot ≡ k)
      → FitsTogether (slice_set slots k (Free n)) (without t pairs) domains open' spare
  kept_taken_back slots pairs domains open' spare k n t is h to of = record {
    housed = housed_gone slots pairs k n t h.housed to of;
    domains = domains_without domains pairs t h.domains;
    settled = λ no. absurd (both_ways open' no is);
    room = h.room;
  }

  -- the monitors of the other slots, and none in the freed one
  pub freed_other : (slots : List (Slot S)) (k j n : ℕ) → (j ≡ k → ⊥) → monitor_at (monitors_of (slice_set slots k (Free n))) j ≡ monitor_at (monitors_of slots) j
  freed_other slots k j n other =
      monitor_at-slot (slice_set slots k (Free n)) j ∙ ap monitor_in (slot_at-set_other slots k j (Free n) other) ∙ sym (monitor_at-slot slots j)

  pub freed_here : (slots : List (Slot S)) (k n : ℕ) (s : Stored S) → monitor_at (monitors_of slots) k ≡ Some s → monitor_at (monitors_of (slice_set slots k (Free n))) k ≡ None
  freed_here slots k n s at =
      monitor_at-slot (slice_set slots k (Free n)) k ∙ ap monitor_in (slot_at-set_same slots k (Free n) (used_within slots k (monitor_used slots k s at)))

  -- a slot is freed, and its pair taken out
  pub kept_gone : (slots : List (Slot S)) (pairs : List Pair) (domains : List ℕ) (open' : Bool) (spare k n : ℕ) (t : Binding) → FitsTogether slots pairs domains open' spare
      → Contains pairs (record { binding = t; slot = k }) → FitsTogether (slice_set slots k (Free n)) (without t pairs) domains open' spare
  kept_gone slots pairs domains open' spare k n t h there =
      let to = pair_by_slot slots pairs k t h.housed there in
      record {
        housed = housed_gone slots pairs k n t h.housed to (pair_by_binding slots pairs k t h.housed there);
        domains = domains_without domains pairs t h.domains;
        settled = λ no pair within.
            let before = from_without t pairs pair within in
            let (r, is) = h.settled no pair before in
            (r, freed_other slots k pair.slot n (λ same. without_absent t pairs pair within (to pair before same)) ∙ is);
        room = h.room;
      }

  -- a monitor is dropped with its pair
  pub kept_dropped : (slots : List (Slot S)) (pairs : List Pair) (domains : List ℕ) (open' : Bool) (spare k n : ℕ) (s : Stored S) → FitsTogether slots pairs domains open' spare
      → monitor_at (monitors_of slots) k ≡ Some s → FitsTogether (slice_set slots k (Free n)) (without s.instance pairs) domains open' spare
  kept_dropped slots pairs domains open' spare k n s h at = kept_gone slots pairs domains open' spare k n s.instance h (h.housed.paired k s at)

  -- a monitor's slot gets another of its instance
  pub kept_changed : (slots : List (Slot S)) (pairs : List Pair) (domains : List ℕ) (open' : Bool) (spare k : ℕ) (s : Stored S) (state : S) → FitsTogether slots pairs domains open' spare
      → monitor_at (monitors_of slots) k ≡ Some s → FitsTogether (slice_set slots k (Taken (record { instance = s.instance; state = state }))) pairs domains open' spare
  kept_changed slots pairs domains open' spare k s state h at = kept_put slots pairs domains open' spare k (record { instance = s.instance; state = state }) h (h.housed.paired k s at)

  -- a slot that a pair leads to and that isn't planned has a monitor
  taken_else : (x : Slot S) → IsUsed x → (x ≡ Planned → ⊥) → (s : Stored S) × (monitor_in x ≡ Some s)
  taken_else (Free next) used other = absurd used
  taken_else Planned used other = absurd (other refl)
  taken_else (Taken s) used other = (s, refl)

  pub filled_unplanned : (slots : List (Slot S)) (pairs : List Pair) (k : ℕ) → IsHoused slots pairs → (pair : Pair) → Contains pairs pair → pair.slot ≡ k
      → (slot_at slots k ≡ Planned → ⊥) → (s : Stored S) × (monitor_at (monitors_of slots) pair.slot ≡ Some s) × (s.instance ≡ pair.binding)
  filled_unplanned slots pairs k h pair within same other =
      let (s, is) = taken_else (slot_at slots pair.slot) (h.used pair within) (λ planned. other (ap (slot_at slots) (sym same) ∙ planned)) in
      let at = monitor_at-slot slots pair.slot ∙ is in
      (s, at, sym (pair_by_slot slots pairs pair.slot s.instance h (h.paired pair.slot s at) pair within refl))

  -- a slot is planned, and freed again
  pub released_stored : (slots new : List (Slot S)) (k n : ℕ) → slot_at new k ≡ Planned → stored_in (monitors_of new) ≡ stored_in (monitors_of slots)
      → stored_in (monitors_of (slice_set new k (Free n))) ≡ stored_in (monitors_of slots)
  released_stored slots new k n planned same = stored_in-planned new k (Free n) refl (ap monitor_in planned) ∙ same

  pub reserved_none : (slots new : List (Slot S)) (k : ℕ) → IsReserved slots new k → monitor_at (monitors_of slots) k ≡ None
  reserved_none slots new k r = monitor_at-slot slots k ∙ unused_none (slot_at slots k) r.unused
