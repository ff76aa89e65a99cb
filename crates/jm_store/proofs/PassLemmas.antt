-- What a pass leaves.
use Rattle.std.proofs.Common.{◌≡◌, ℕ, ◌≤◌, ◌⊎◌, inl, inr, Bool, List, length, sym, ap, ◌∙◌, subst, arith}
use Rattle.std.specs.Prelude.{Option, Some, None, filter}
use Rattle.std.proofs.lemmas.List.{length-map}
use Rattle.std.proofs.lemmas.Option.{none-some}
use Rattle.std.specs.List.Sorted.{IsPermutation}
use Rattle.std.proofs.lemmas.List.Sorted.{Contains-permutation, IsPermutation-sym}
use Rattle.jm_model.specs.Meanings.{Meaning}
use Rattle.jm_model.specs.declared.binding.Binding.{Binding}
use Rattle.jm_semantics.proofs.ListLemmas.{Contains-filter, Contains-from_filter}
use Rattle.jm_marks.specs.Marks.{dead_mask_of, has_live}
use Rattle.jm_index.specs.Index.{Pair}
use Rattle.jm_monitors.specs.declared.stored.Stored.{Stored}
use Rattle.jm_monitors.specs.Steps.{IsThinned, AreSpared, AreLiveMarks, IsCutState, IsAliveState}
use Rattle.jm_store.specs.declared.monitors.Slot.{Slot}
use Rattle.jm_store.specs.Slots.{monitor_in, monitors_of, monitor_at, stored_in}
use Rattle.jm_store.specs.Moves.{IsSwept}
use Rattle.jm_store.specs.Housing.{IsHoused, FitsTogether}
use Rattle.jm_store.proofs.SlotLemmas.{stored_at, place_of}
use Rattle.jm_store.proofs.HousingLemmas.{pair_by_binding}
use Rattle.jm_store.proofs.AfterLemmas.{AreSingle, single_stored}

module _ {S : Type 0} where
  -- no instance stands in two slots
  pub single_housed : (slots : List (Slot S)) (pairs : List Pair) → IsHoused slots pairs → AreSingle (monitors_of slots)
  single_housed slots pairs h j k r s at is same =
      pair_by_binding slots pairs k s.instance h (h.paired k s is) (record { binding = r.instance; slot = j }) (h.paired j r at) same

  pub kept_swept : (slots : List (Slot S)) (pairs left : List Pair) (domains : List ℕ) (open' : Bool) (spare more : ℕ) → FitsTogether slots pairs domains open' spare → left ≡ pairs → spare ≤ more
      → FitsTogether slots left domains open' more
  kept_swept slots pairs left domains open' spare more h same le =
      rw same (record { housed = h.housed; domains = h.domains; settled = h.settled; room = λ is. let one = h.room is in omega (arith, one, le) })

  pub all_slots : (slots : List (Slot S)) (n : ℕ) → length slots ≤ n → length (monitors_of slots) ≤ n
  all_slots slots n le = omega (arith, le, length-map slots monitor_in)

module _ (m : Meaning) {S : Type 0} (Stands : S → List ℕ → Type 0) (dead : List Bool) where
  stays : (x y : Option (Stored S)) (s : Stored S) → IsSwept m Stands dead x y → y ≡ Some s → (x ≡ Some s) × IsAliveState m Stands s.state (dead_mask_of dead s.instance)
  stays None y s swept is = absurd (none-some s (sym swept ∙ is))
  stays (Some r) None s swept is = absurd (none-some s is)
  stays (Some r) (Some t) s swept is =
      let same : t ≡ s = cc in
      (ap (λ (v : Stored S). Some v) (sym swept.0 ∙ same), subst (λ (v : Stored S). IsAliveState m Stands v.state (dead_mask_of dead v.instance)) (sym swept.0 ∙ same) swept.1)

  goes : (x y : Option (Stored S)) (s : Stored S) → IsSwept m Stands dead x y → x ≡ Some s → (y ≡ Some s) ⊎ IsCutState m Stands s.state (dead_mask_of dead s.instance)
  goes None y s swept is = absurd (none-some s is)
  goes (Some r) None s swept is = let same : r ≡ s = cc in inr (subst (λ (v : Stored S). IsCutState m Stands v.state (dead_mask_of dead v.instance)) same swept)
  goes (Some r) (Some t) s swept is = let same : r ≡ s = cc in inl (ap (λ (v : Stored S). Some v) (swept.0 ∙ same))

  -- the marks with a live object, in an order of their own
  pub live_marks : (marks left : List Binding) → IsPermutation (filter (has_live dead) marks) left → AreLiveMarks dead marks left
  live_marks marks left kept b = (
    (λ there. Contains-from_filter (has_live dead) marks b (Contains-permutation left (filter (has_live dead) marks) b (IsPermutation-sym (filter (has_live dead) marks) left kept) there)),
    (λ both. Contains-permutation (filter (has_live dead) marks) left b kept (Contains-filter (has_live dead) marks b both.0 both.1)),
  )

  -- a slot's monitor is as before, or was swept
  abbrev pub IsThinnedAt : Option (Stored S) → Option (Stored S) → Type 0
  IsThinnedAt x y = (y ≡ x) ⊎ IsSwept m Stands dead x y

  was : (x y : Option (Stored S)) (s : Stored S) → IsThinnedAt x y → y ≡ Some s → x ≡ Some s
  was x y s (inl same) is = sym same ∙ is
  was x y s (inr swept) is = (stays x y s swept is).0

  is_cut : (x y : Option (Stored S)) (s : Stored S) → IsThinnedAt x y → x ≡ Some s → (y ≡ Some s) ⊎ IsCutState m Stands s.state (dead_mask_of dead s.instance)
  is_cut x y s (inl same) is = inl (same ∙ is)
  is_cut x y s (inr swept) is = goes x y s swept is

  pub thinned : (old new : List (Option (Stored S))) → ((k : ℕ) → IsThinnedAt (monitor_at old k) (monitor_at new k)) → AreSingle new → IsThinned m Stands dead (stored_in old) (stored_in new)
  thinned old new each single = record {
    distinct = single_stored new single;
    among = λ s there.
        let (k, at) = place_of new s there in
        stored_at old k s (was (monitor_at old k) (monitor_at new k) s (each k) at);
    dropped = λ s there.
        let (k, at) = place_of old s there in
        elim (is_cut (monitor_at old k) (monitor_at new k) s (each k) at) [ inl is ↦ inl (stored_at new k s is) | inr cut ↦ inr cut ];
  }

  -- where all slots were swept, no monitor that is left is cut
  pub alive : (old new : List (Option (Stored S))) → ((k : ℕ) → IsSwept m Stands dead (monitor_at old k) (monitor_at new k)) → AreSpared m Stands dead (stored_in new)
  alive old new swept s there =
      let (k, at) = place_of new s there in
      (stays (monitor_at old k) (monitor_at new k) s (swept k) at).1
