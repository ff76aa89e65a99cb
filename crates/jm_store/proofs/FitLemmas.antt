-- Stores that fit a table of objects.
use Rattle.std.proofs.Common.{◌≡◌, ◌≢◌, ℕ, zero, suc, inl, inr, Bool, false, List, [], ◌∷◌, length, refl, subst}
use Rattle.std.specs.Prelude.{Some, Contains}
use Rattle.std.proofs.lemmas.Bool.{false≢true}
use Rattle.std.proofs.lemmas.Option.{none-some}
use Rattle.jm_model.specs.Bindings.{mask_of, empty}
use Rattle.jm_semantics.proofs.BindingLemmas.{unbound-gives}
use Rattle.jm_semantics.proofs.ListLemmas.{Contains-cons_cases, Contains-head}
use Rattle.jm_model.specs.declared.binding.Binding.{Binding}
use Rattle.jm_index.specs.Index.{Pair, PairList, IsFitting, AreBelow}
use Rattle.jm_index.proofs.ReadLemmas.{Contains-none}
use Rattle.jm_monitors.specs.declared.stored.Stored.{Stored}
use Rattle.jm_store.specs.declared.monitors.Slot.{Slot}
use Rattle.jm_store.specs.Slots.{IsUsed, slot_at, monitors_of, monitor_at}
use Rattle.jm_store.specs.Contents.{Contents, IsFit, ArePaired, with_ending}
use Rattle.jm_store.specs.Housing.{IsHoused, FitsTogether}
use Rattle.jm_store.specs.declared.monitors.Slot.TheVariants.{Taken}
use Rattle.jm_store.proofs.SlotLemmas.{place_of}
use Rattle.jm_store.proofs.GivenLemmas.{one_pair}
use Rattle.jm_store.proofs.CommitLemmas.{housed_within}

module _ {S : Type 0} where
  pub vacant_fits : (index : PairList) (ending : List ℕ) (dead : List Bool) → IsFitting index dead → IsFit {S = S} (record { monitors = []; marks = []; is_open = false; index = index; ending = ending }) dead
  vacant_fits index ending dead fits = record {
    instances = λ s there. absurd (Contains-none s there);
    marks = λ b there. absurd (Contains-none b there);
    index = fits;
  }

  -- an index that fits gives a store that fits
  pub housed_fits : (slots : List (Slot S)) (marks : List Binding) (open' : Bool) (index : PairList) (ending : List ℕ) (dead : List Bool) → IsHoused slots index.list → IsFitting index dead
      → ((b : Binding) → Contains marks b → AreBelow (length dead) b) → IsFit (record { monitors = monitors_of slots; marks = marks; is_open = open'; index = index; ending = ending }) dead
  housed_fits slots marks open' index ending dead h fits below = record {
    instances = λ s there.
        let (k, at) = place_of (monitors_of slots) s there in
        fits.within (record { binding = s.instance; slot = k }) (h.paired k s at);
    marks = below;
    index = fits;
  }

  pub are_paired : (slots : List (Slot S)) (marks : List Binding) (open' : Bool) (index : PairList) (ending : List ℕ) → IsHoused slots index.list
      → ArePaired (record { monitors = monitors_of slots; marks = marks; is_open = open'; index = index; ending = ending })
  are_paired slots marks open' index ending h = record { paired = h.paired; bindings = h.bindings; within = housed_within slots index.list h }

  -- one monitor, and its pair
  pub kept_first : (s : Stored S) (d spare : ℕ) → mask_of s.instance ≡ d → FitsTogether (Taken s ∷ []) (record { binding = s.instance; slot = 0 } ∷ []) (d ∷ []) false spare
  kept_first s d spare is =
      let pair : Pair = record { binding = s.instance; slot = 0 } in
      record {
        housed = record { paired = paired; used = λ p there. used p (only pair p there); bindings = one_pair (λ a b. a.binding ≢ b.binding) pair; slots_apart = one_pair (λ a b. a.slot ≢ b.slot) pair };
        domains = record { distinct = one_pair (λ a b. a ≢ b) d; listed = λ p there. rw (← only pair p there) (rw is (Contains-head d [])) };
        settled = λ e p there. rw (← only pair p there) (s, refl);
        room = λ e. absurd (false≢true e);
      }
    where
      only : {X : Type 0} (x y : X) → Contains (x ∷ []) y → x ≡ y
      only x y there = elim (Contains-cons_cases x [] y there) [ inl same ↦ same | inr none ↦ absurd (Contains-none y none) ]

      used : (p : Pair) → record { binding = s.instance; slot = 0 } ≡ p → IsUsed (slot_at (Taken s ∷ []) p.slot)
      used p e = subst (λ (q : Pair). IsUsed (slot_at (Taken s ∷ []) q.slot)) e tt

      paired : (k : ℕ) (r : Stored S) → monitor_at (monitors_of (Taken s ∷ [])) k ≡ Some r → Contains {X = Pair} (record { binding = s.instance; slot = 0 } ∷ []) (record { binding = r.instance; slot = k })
      paired zero r at =
          let same : s ≡ r = cc in
          let pair : Pair = record { binding = s.instance; slot = 0 } in
          subst (λ (x : Stored S). Contains {X = Pair} (pair ∷ []) (record { binding = x.instance; slot = 0 })) same (Contains-head pair [])
      paired (suc k) r at = absurd (none-some r at)

pub below_empty : (n : ℕ) → AreBelow n empty
below_empty n o (p, at) = absurd (unbound-gives 8 p o at)

-- the same with other letters
pub fit_ending : {S : Type 0} (store : Contents S) (ending : List ℕ) (dead : List Bool) → IsFit store dead → IsFit (with_ending store ending) dead
fit_ending store ending dead h = record { instances = h.instances; marks = h.marks; index = h.index }
