-- What flags of objects tell of a history and of an event.
use Rattle.std.proofs.Common.{◌≡◌, ℕ, zero, suc, ◌<◌, Bool, true, false, not, cond, List, [], ◌∷◌, take, inl, inr, refl, ◌∙◌, ap, subst}
use Rattle.std.specs.Prelude.{Contains, Some, None, Option, All, find, slice_get}
use Rattle.std.specs.List.{list_any}
use Rattle.std.proofs.lemmas.List.Elements.{All-contains}
use Rattle.jm_model.specs.Bindings.{object_at, objects_of}
use Rattle.jm_model.specs.Meanings.{Meaning}
use Rattle.jm_model.specs.declared.binding.Binding.{Binding}
use Rattle.jm_model.specs.declared.step.Letter.{Letter}
use Rattle.jm_model.specs.declared.step.Step.TheVariants.{Event}
use Rattle.jm_model.specs.declared.step.Entry.{Entry}
use Rattle.jm_semantics.specs.Histories.{first_dead}
use Rattle.jm_semantics.specs.Legality.{IsStepOf}
use Rattle.jm_semantics.proofs.ListLemmas.{Contains-nil, Contains-cons_cases}
use Rattle.jm_marks.specs.Marks.{is_dead_object, has_live}
use Rattle.jm_marks.proofs.DeadLemmas.{alive_of}
use Rattle.jm_index.specs.Index.{AreBelow}
use Rattle.jm_monitors.specs.Deaths.{AreFlagsOf}
use Rattle.jm_monitors.specs.Steps.{IsLiveEvent}
use Rattle.jm_monitors.proofs.BaseLemmas.{object-among}
use Rattle.jm_core.specs.Cores.{binds_live}
use Rattle.jm_core.specs.Inside.{first_dead_by}

-- flags of a history tell its first dead object of a binding, and whether the binding has a live one
pub first_dead-by_flags : (h : List Entry) (dead : List Bool) (b : Binding) → AreFlagsOf h dead → first_dead h b ≡ first_dead_by dead b
first_dead-by_flags h dead b flags = λ i. find (λ o. flags o i) (objects_of b)

pub live-by_flags : (h : List Entry) (dead : List Bool) (b : Binding) → AreFlagsOf h dead → binds_live h b ≡ has_live dead b
live-by_flags h dead b flags = λ i. list_any (λ o. not (flags o i)) (objects_of b)

-- ---- where a search finds nothing
rest_None : (v : Bool) (q : ℕ) (rest : Option ℕ) → cond v (Some q) rest ≡ None → (v ≡ false) × (rest ≡ None)
rest_None true q rest e = absurd (cc)
rest_None false q rest e = (refl, e)

none_found : (test : ℕ → Bool) (xs : List ℕ) (x : ℕ) → find test xs ≡ None → Contains xs x → test x ≡ false
none_found test [] x n h = absurd (Contains-nil x h)
none_found test (y ∷ xs) x n h =
    let parts = rest_None (test y) y (find test xs) n in
    elim (Contains-cons_cases y xs x h) [
      | inl same ↦ subst (λ z. test z ≡ false) same parts.0
      | inr later ↦ none_found test xs x parts.1 later
    ]

-- a search that no object passes finds nothing
none_passes : (test : ℕ → Bool) (xs : List ℕ) → ((x : ℕ) → test x ≡ false) → find test xs ≡ None
none_passes test [] h = refl
none_passes test (y ∷ xs) h = rw (h y) (none_passes test xs h)

-- where no object is dead, none of a binding's is
pub none_dead : (dead : List Bool) (b : Binding) → ((o : ℕ) → slice_get dead o ≡ Some true → ⊥) → first_dead_by dead b ≡ None
none_dead dead b h = none_passes (is_dead_object dead) (objects_of b) (λ o. alive_of dead o (h o))

-- an event that binds no dead object is a live one
pub live_event : (m : Meaning) (dead : List Bool) (e : Letter) (b : Binding) → IsStepOf m (Event e b) → first_dead_by dead b ≡ None → IsLiveEvent m dead e.0 b
live_event m dead e b is none = record {
  letter_there = is.0;
  eight = is.1;
  params = is.2;
  live = λ o h. none_found (is_dead_object dead) (objects_of b) o none h;
}

-- its objects stand in the table
pub objects_below : (n : ℕ) (b : Binding) → All (λ o. o < n) (objects_of b) → AreBelow n b
objects_below n b all o at = All-contains (λ q. q < n) (objects_of b) o all (object-among b at.0 o at.1)

-- ---- a search by parameters
module _ (test : ℕ → Bool) where
  -- the first p parameters have no object that passes
  pub found_first : (b : Binding) (p o : ℕ) → find test (objects_of (take p b)) ≡ None → object_at b p ≡ Some o → test o ≡ true → find test (objects_of b) ≡ Some o
  found_first [] p o none at is = absurd (cc)
  found_first (None ∷ b) zero o none at is = absurd (cc)
  found_first (Some q ∷ b) zero o none at is =
      let same : q ≡ o = cc in
      ap (λ v. cond v (Some q) (find test (objects_of b))) (ap test same ∙ is) ∙ ap Some same
  found_first (None ∷ b) (suc p) o none at is = found_first b p o none at is
  found_first (Some q ∷ b) (suc p) o none at is =
      let parts = rest_None (test q) q (find test (objects_of (take p b))) none in
      ap (λ v. cond v (Some q) (find test (objects_of b))) parts.0 ∙ found_first b p o parts.1 at is

  pub none_yet : (b : Binding) (p : ℕ) → find test (objects_of (take p b)) ≡ None → ((o : ℕ) → object_at b p ≡ Some o → test o ≡ false) → find test (objects_of (take (suc p) b)) ≡ None
  none_yet [] p none here = refl
  none_yet (None ∷ b) zero none here = refl
  none_yet (Some q ∷ b) zero none here = ap (λ v. cond v (Some q) None) (here q refl)
  none_yet (None ∷ b) (suc p) none here = none_yet b p none here
  none_yet (Some q ∷ b) (suc p) none here =
      let parts = rest_None (test q) q (find test (objects_of (take p b))) none in
      ap (λ v. cond v (Some q) (find test (objects_of (take (suc p) b)))) parts.0 ∙ none_yet b p parts.1 here
