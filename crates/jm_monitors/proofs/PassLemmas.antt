-- Deaths and passes keep a store.
use Rattle.std.proofs.Common.{◌≡◌, ℕ, zero, suc, Bool, true, not, ◌⊎◌, inl, inr, List, [], ◌∷◌, refl, sym, ◌∙◌, ap, subst}
use Rattle.std.specs.Prelude.{Contains, ◌↔◌}
use Rattle.std.proofs.lemmas.Bool.{false≢true, cases_Bool}
use Rattle.jm_model.specs.Bindings.{objects_of}
use Rattle.jm_model.specs.Meanings.{Meaning, IsCutWord}
use Rattle.jm_model.specs.declared.binding.Binding.{Binding}
use Rattle.jm_semantics.specs.Traces.{ParametricEvent, seen_of, slice_of}
use Rattle.jm_semantics.specs.Instances.{IsInstance}
use Rattle.jm_semantics.proofs.BindingLemmas.{below-refl}
use Rattle.jm_semantics.proofs.DecidingLists.{list_any-at, list_any-from}
use Rattle.jm_semantics.proofs.MaskLemmas.{mask_where-mono}
use Rattle.jm_semantics.proofs.MeaningLemmas.{cut-more_dead}
use Rattle.jm_marks.specs.Marks.{is_dead_object, dead_mask_of, has_live}
use Rattle.jm_monitors.specs.declared.stored.Stored.{Stored}
use Rattle.jm_monitors.specs.Stores.{HasInstance, IsStoreOf}
use Rattle.jm_monitors.specs.Steps.{IsAfterPass, after_death}
use Rattle.jm_monitors.specs.Laws.{DeathKeepsStore, PassKeepsStore}
use Rattle.jm_monitors.proofs.ReachLemmas.{has_or_not}

-- ---- more dead objects
-- what is dead stays so
pub death-keeps : (dead : List Bool) (o q : ℕ) → is_dead_object dead q ≡ true → is_dead_object (after_death dead o) q ≡ true
death-keeps [] o q is = is
death-keeps (x ∷ dead) zero zero is = refl
death-keeps (x ∷ dead) zero (suc q) is = is
death-keeps (x ∷ dead) (suc o) zero is = is
death-keeps (x ∷ dead) (suc o) (suc q) is = death-keeps dead o q is

module _ (dead more : List Bool) (h : (o : ℕ) → is_dead_object dead o ≡ true → is_dead_object more o ≡ true) where
  -- a word that is cut is cut with more dead objects
  pub cut-later : (m : Meaning) (w : List ℕ) (t : Binding) → IsCutWord m w (dead_mask_of dead t) → IsCutWord m w (dead_mask_of more t)
  cut-later m w t cut =
      cut-more_dead m w (dead_mask_of dead t) (dead_mask_of more t)
      (mask_where-mono (is_dead_object dead) (is_dead_object more) t t h (below-refl t)) cut

  lived : (o : ℕ) → not (is_dead_object more o) ≡ true → not (is_dead_object dead o) ≡ true
  lived o live =
      elim (cases_Bool (is_dead_object dead o)) [
        | inl is ↦ absurd (false≢true (ap not (sym (h o is)) ∙ live))
        | inr isnt ↦ ap not isnt
      ]

  -- what has a live object had one before
  pub live-before : (b : Binding) → has_live more b ≡ true → has_live dead b ≡ true
  live-before b live =
      let from = list_any-from (λ o. not (is_dead_object more o)) (objects_of b) live in
      list_any-at (λ o. not (is_dead_object dead o)) (objects_of b) from.0 from.1 (lived from.0 from.2)

  -- so a store is one with more dead objects
  pub dies-store : (m : Meaning) {S : Type 0} (Stands : S → List ℕ → Type 0) (trace : List ParametricEvent) (stored : List (Stored S)) (marks : List Binding)
      → IsStoreOf m Stands trace dead stored marks → IsStoreOf m Stands trace more stored marks
  dies-store m Stands trace stored marks store = record {
    distinct = store.distinct;
    each = store.each;
    cut = λ t i none. cut-later m (slice_of trace t) t (store.cut t i none);
    seen = store.seen;
    marked = λ b seen live. store.marked b seen (live-before b live);
  }

pub death_keeps_store-lem : (m : Meaning) {S : Type 0} (Stands : S → List ℕ → Type 0) → DeathKeepsStore m Stands
death_keeps_store-lem m Stands trace dead stored marks o store =
    dies-store dead (after_death dead o) (death-keeps dead o) m Stands trace stored marks store

-- ---- a pass
module _ (m : Meaning) {S : Type 0} (Stands : S → List ℕ → Type 0) (trace : List ParametricEvent) (dead : List Bool) (stored after : List (Stored S)) (marks left : List Binding)
    (store : IsStoreOf m Stands trace dead stored marks) (is : IsAfterPass m Stands dead stored after marks left) where
  -- an instance is stored or cut
  kept-or_cut : (t : Binding) → IsInstance trace t → HasInstance after t ⊎ IsCutWord m (slice_of trace t) (dead_mask_of dead t)
  kept-or_cut t i =
      elim (has_or_not stored t) [
        | inl found ↦ elim (is.thinned.dropped found.0 found.1) [
          | inl there ↦ inl (found.0, there, found.2)
          | inr cut ↦ inr (subst (λ u. IsCutWord m (slice_of trace u) (dead_mask_of dead u)) found.2
              (cut (slice_of trace found.0.instance) (store.each found.0 found.1).1))
        ]
        | inr none ↦ inr (store.cut t i none)
      ]

  pass-cut : (t : Binding) → IsInstance trace t → (HasInstance after t → ⊥) → IsCutWord m (slice_of trace t) (dead_mask_of dead t)
  pass-cut t i none = elim (kept-or_cut t i) [ inl found ↦ absurd (none found) | inr cut ↦ cut ]

  pass-store : IsStoreOf m Stands trace dead after left
  pass-store = record {
    distinct = is.thinned.distinct;
    each = λ s h. store.each s (is.thinned.among s h);
    cut = pass-cut;
    seen = λ b h. store.seen b ((is.left_marks b).0 h).0;
    marked = λ b seen live. (is.left_marks b).1 (store.marked b seen live, live);
  }

  -- what is stored isn't cut
  kept-alive : (t : Binding) → HasInstance after t → IsInstance trace t × (IsCutWord m (slice_of trace t) (dead_mask_of dead t) → ⊥)
  kept-alive t found =
      let s = found.0 in
      let right = store.each s (is.thinned.among s found.1) in
      subst (λ u. IsInstance trace u × (IsCutWord m (slice_of trace u) (dead_mask_of dead u) → ⊥)) found.2
      (right.0, is.alive s found.1 (slice_of trace s.instance) right.1)

  alive-kept : (t : Binding) → IsInstance trace t × (IsCutWord m (slice_of trace t) (dead_mask_of dead t) → ⊥) → HasInstance after t
  alive-kept t alive = elim (kept-or_cut t alive.0) [ inl found ↦ found | inr cut ↦ absurd (alive.1 cut) ]

  pass-marks : (b : Binding) → Contains left b ↔ (Contains (seen_of trace) b × (has_live dead b ≡ true))
  pass-marks b = (
    (λ h. let from = (is.left_marks b).0 h in (store.seen b from.0, from.1)),
    λ h. (is.left_marks b).1 (store.marked b h.0 h.1, h.1),
  )

pub pass_keeps_store-lem : (m : Meaning) {S : Type 0} (Stands : S → List ℕ → Type 0) → PassKeepsStore m Stands
pass_keeps_store-lem m Stands trace dead stored after marks left store is = (
  pass-store m Stands trace dead stored after marks left store is,
  (λ t. (kept-alive m Stands trace dead stored after marks left store is t, alive-kept m Stands trace dead stored after marks left store is t)),
  pass-marks m Stands trace dead stored after marks left store is,
)
