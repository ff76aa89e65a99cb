-- A stored monitor of which an event makes a larger instance is of the largest instance below it.
use Rattle.std.proofs.Common.{◌≡◌, ℕ, zero, suc, Bool, true, false, not, inl, inr, List, [], ◌∷◌, length, sym, ◌∙◌, ap, subst}
use Rattle.std.specs.Prelude.{Contains, Some, None}
use Rattle.std.proofs.lemmas.Bool.{false≢true, cases_Bool}
use Rattle.std.proofs.lemmas.Option.{none-some, same_Some}
use Rattle.jm_model.specs.Bindings.{is_below, is_compatible, join, object_at, objects_of}
use Rattle.jm_model.specs.Meanings.{Meaning}
use Rattle.jm_model.specs.declared.binding.Binding.{Binding}
use Rattle.jm_semantics.specs.Traces.{ParametricEvent, seen_of, slice_of}
use Rattle.jm_semantics.specs.Instances.{IsInstance, join_below}
use Rattle.jm_semantics.proofs.ListLemmas.{Contains-head, Contains-cons}
use Rattle.jm_semantics.proofs.DecidingLists.{list_any-at}
use Rattle.jm_semantics.proofs.BindingLemmas.{below-object, below-from_objects, below-length, below-refl, below-antisym, join-below, below-join_left, below-join_right, join-gives}
use Rattle.jm_semantics.proofs.InstanceLemmas.{instance-join, covering-join_below, slice-join_below}
use Rattle.jm_marks.specs.Marks.{is_dead_object, has_live}
use Rattle.jm_monitors.specs.declared.stored.Stored.{Stored}
use Rattle.jm_monitors.specs.Stores.{IsStoreOf}
use Rattle.jm_monitors.specs.Steps.{IsBase, IsLiveEvent}
use Rattle.jm_monitors.specs.Laws.{BaseIsOne, MadeIsNew}

-- ---- objects that live
-- an object that a binding gives to a parameter is one of its objects
pub object-among : (b : Binding) (p o : ℕ) → object_at b p ≡ Some o → Contains (objects_of b) o
object-among [] p o e = absurd (none-some o e)
object-among (None ∷ b) zero o e = absurd (none-some o e)
object-among (None ∷ b) (suc p) o e = object-among b p o e
object-among (Some q ∷ b) zero o e = subst (λ x. Contains (q ∷ objects_of b) x) (same_Some q o e) (Contains-head q (objects_of b))
object-among (Some q ∷ b) (suc p) o e = Contains-cons q (objects_of b) o (object-among b p o e)

-- what a live event gives to a parameter is live
pub event-live : (m : Meaning) (dead : List Bool) (letter : ℕ) (b : Binding) → IsLiveEvent m dead letter b → (p o : ℕ) → object_at b p ≡ Some o → is_dead_object dead o ≡ false
event-live m dead letter b event p o at = event.live o (object-among b p o at)

-- what a binding with no live object gives to a parameter is dead
pub all_dead : (dead : List Bool) (b : Binding) → has_live dead b ≡ false → (p o : ℕ) → object_at b p ≡ Some o → is_dead_object dead o ≡ true
all_dead dead b none p o at =
    elim (cases_Bool (is_dead_object dead o)) [
      | inl is ↦ is
      | inr live ↦ absurd (false≢true (sym none
          ∙ list_any-at (λ q. not (is_dead_object dead q)) (objects_of b) o (object-among b p o at) (ap not live)))
    ]

-- ---- joins
-- a binding takes nothing from one that lies below it
pub join-absorbs : (s b : Binding) → is_compatible s b ≡ true → is_below b s ≡ true → join s b ≡ s
join-absorbs s b c above = below-antisym (join s b) s (join-below s b s (below-refl s) above) (below-join_left s b c)

-- a binding below a join, whose objects are none of the second one's, lies below the first
pub below-first : (s b c : Binding) → is_compatible s b ≡ true → is_below c (join s b) ≡ true
    → ((p o : ℕ) → object_at c p ≡ Some o → object_at b p ≡ Some o → ⊥) → is_below c s ≡ true
below-first s b c is below none =
    below-from_objects c s (below-length c (join s b) below ∙ sym (below-length s (join s b) (below-join_left s b is)))
    (λ p o at. elim (join-gives s b p o (below-object c (join s b) p o below at)) [
      | inl mine ↦ mine
      | inr its ↦ absurd (none p o at its)
    ])

-- ---- the base of an instance
module _ (m : Meaning) {S : Type 0} (Stands : S → List ℕ → Type 0) (trace : List ParametricEvent) (dead : List Bool) (stored : List (Stored S)) (marks : List Binding) (letter : ℕ) (b : Binding) (store : IsStoreOf m Stands trace dead stored marks) (event : IsLiveEvent m dead letter b) where
  -- Where each mark below the join lies below the base, so does each seen binding: one with no live object has none of
  -- the event's objects.
  seen-covered : (s : Binding) → is_compatible s b ≡ true → ((c : Binding) → Contains marks c → is_below c (join s b) ≡ true → is_below c s ≡ true)
      → (c : Binding) → Contains (seen_of trace) c → is_below c (join s b) ≡ true → is_below c s ≡ true
  seen-covered s is covered c seen below =
      elim (cases_Bool (has_live dead c)) [
        | inl live ↦ covered c (store.marked c seen live) below
        | inr none ↦ below-first s b c is below (λ p o at its.
            false≢true (sym (event-live m dead letter b event p o its) ∙ all_dead dead c none p o at))
      ]

  base-covers : (s : Stored S) → IsBase b marks s → (c : Binding) → Contains (seen_of trace) c → is_below c (join s.instance b) ≡ true → is_below c s.instance ≡ true
  base-covers s base c seen below =
      elim base.1 [
        | inl above ↦ subst (λ u. is_below c u ≡ true) (join-absorbs s.instance b base.0 above) below
        | inr new ↦ seen-covered s.instance base.0 new.2 c seen below
      ]

  pub joined-eight : (s : Stored S) → Contains stored s → IsBase b marks s → length (join s.instance b) ≡ 8
  joined-eight s h base =
      sym (below-length s.instance (join s.instance b) (below-join_left s.instance b base.0)) ∙ (store.each s h).0.eight

  -- the base is the largest instance below the join
  pub base-join_below : (s : Stored S) → Contains stored s → IsBase b marks s → s.instance ≡ join_below trace (join s.instance b)
  base-join_below s h base =
      covering-join_below trace s.instance (join s.instance b) (store.each s h).0 (joined-eight s h base)
      (below-join_left s.instance b base.0) (base-covers s base)

  -- so the join has its slice
  pub base-slice : (s : Stored S) → Contains stored s → IsBase b marks s → slice_of trace (join s.instance b) ≡ slice_of trace s.instance
  base-slice s h base =
      slice-join_below trace (join s.instance b) (joined-eight s h base) ∙ ap (slice_of trace) (sym (base-join_below s h base))

  one-base : (r s : Stored S) → Contains stored r → Contains stored s → IsBase b marks r → IsBase b marks s → join r.instance b ≡ join s.instance b → r.instance ≡ s.instance
  one-base r s h k base other same = base-join_below r h base ∙ ap (join_below trace) same ∙ sym (base-join_below s k other)

  -- a join that is an instance is its base
  pub joined-old : (s : Stored S) → Contains stored s → IsBase b marks s → IsInstance trace (join s.instance b) → join s.instance b ≡ s.instance
  joined-old s h base i = instance-join trace (join s.instance b) i ∙ sym (base-join_below s h base)

  new-joined : (s : Stored S) → Contains stored s → IsBase b marks s → is_below b s.instance ≡ false → IsInstance trace (join s.instance b) → ⊥
  new-joined s h base apart i =
      false≢true (sym apart ∙ subst (λ u. is_below b u ≡ true) (joined-old s h base i) (below-join_right s.instance b base.0))

pub base_is_one-lem : (m : Meaning) {S : Type 0} (Stands : S → List ℕ → Type 0) → BaseIsOne m Stands
base_is_one-lem m Stands trace dead stored marks letter b r s store event h k base other same =
    one-base m Stands trace dead stored marks letter b store event r s h k base other same

pub made_is_new-lem : (m : Meaning) {S : Type 0} (Stands : S → List ℕ → Type 0) → MadeIsNew m Stands
made_is_new-lem m Stands trace dead stored marks letter b s store event h base apart found =
    new-joined m Stands trace dead stored marks letter b store event s h base apart
    (subst (IsInstance trace) found.2 (store.each found.0 found.1).0)
