-- What flags tell of the dead objects of bindings and of histories.
use Rattle.std.proofs.Common.{◌≡◌, ℕ, zero, suc, ◌*◌, ◌<◌, ◌≤◌, Bool, true, false, not, ◌||◌, inl, inr, List, [], ◌∷◌, ◌++◌, replicate, refl, sym, ◌∙◌, ap, subst, get_or-set_same, get_or-set_other}
use Rattle.std.specs.Prelude.{Contains, Some, None, ◌==◌, ◌&&◌}
use Rattle.std.specs.List.{list_any}
use Rattle.std.proofs.lemmas.Bool.{false≢true, cases_Bool, cases_eq, and_parts, or_right, eq-eqb, ne_eqb}
use Rattle.std.proofs.lemmas.List.Folds.{list_any-append}
use Rattle.jm_model.specs.Bindings.{object_at, objects_of, mask_where}
use Rattle.jm_model.specs.Meanings.{Meaning, IsCutWord}
use Rattle.jm_model.specs.declared.binding.Binding.{Binding}
use Rattle.jm_model.specs.declared.step.Entry.{Entry}
use Rattle.jm_semantics.specs.Histories.{accepted_death, dead_of, is_dead}
use Rattle.jm_semantics.proofs.ListLemmas.{Contains-nil, Contains-cons_cases}
use Rattle.jm_semantics.proofs.BindingLemmas.{below-refl}
use Rattle.jm_semantics.proofs.DecidingLists.{list_any-at, list_any-from}
use Rattle.jm_semantics.proofs.HistoryLemmas.{dead_of-accepted, dead_of-other, live-object, first_dead-None}
use Rattle.jm_semantics.proofs.MaskLemmas.{mask_where-mono}
use Rattle.jm_semantics.proofs.MeaningLemmas.{cut-more_dead}
use Rattle.jm_marks.specs.Marks.{is_dead_object, dead_mask_of}
use Rattle.jm_monitors.specs.Steps.{after_death}
use Rattle.jm_monitors.specs.Laws.{CutByOwnDeath, FlagsTellParameters, FlagsTellLive, FlagsAtStart, FlagsAfterDeath, FlagsAfterOther}
use Rattle.jm_monitors.proofs.BaseLemmas.{object-among}

-- kinds that agree on the objects of a binding give it one mask
pub mask_where-agree : (kind other : ℕ → Bool) (b : Binding) → ((p o : ℕ) → object_at b p ≡ Some o → kind o ≡ other o) → mask_where kind b ≡ mask_where other b
mask_where-agree kind other [] h = refl
mask_where-agree kind other (None ∷ b) h = ap (λ n. 2 * n) (mask_where-agree kind other b (λ p. h (suc p)))
mask_where-agree kind other (Some o ∷ b) h =
    let first : kind o ≡ other o = h 0 o refl in
    let rest : mask_where kind b ≡ mask_where other b = mask_where-agree kind other b (λ p. h (suc p)) in
    rw (first, rest)

-- an object of a binding stands at a parameter
pub object-placed : (b : Binding) (o : ℕ) → Contains (objects_of b) o → (p : ℕ) × (object_at b p ≡ Some o)
object-placed [] o h = absurd (Contains-nil o h)
object-placed (None ∷ b) o h = let at = object-placed b o h in (suc at.0, at.1)
object-placed (Some q ∷ b) o h =
    elim (Contains-cons_cases q (objects_of b) o h) [
      | inl same ↦ (0, ap Some same)
      | inr later ↦ let at = object-placed b o later in (suc at.0, at.1)
    ]

-- ---- what deaths cut
none_passes : {X : Type 0} (p : X → Bool) (xs : List X) (x : X) → list_any p xs ≡ false → Contains xs x → p x ≡ false
none_passes p xs x none h =
    elim (cases_Bool (p x)) [
      | inl is ↦ absurd (false≢true (sym none ∙ list_any-at p xs x h is))
      | inr isnt ↦ isnt
    ]

widened : (d w : Bool) → (not d && w) ≡ false → (d || w) ≡ d
widened true w e = refl
widened false w e = e

not-true : (b : Bool) → not b ≡ true → b ≡ false
not-true true e = absurd (false≢true e)
not-true false e = refl

-- where no object of t is dead by `more` alone, the word was cut before
none-newly_dead : (m : Meaning) (w : List ℕ) (t : Binding) (dead more : List Bool) → list_any (λ o. not (is_dead_object dead o) && is_dead_object more o) (objects_of t) ≡ false
    → IsCutWord m w (dead_mask_of more t) → IsCutWord m w (dead_mask_of dead t)
none-newly_dead m w t dead more none cut =
    let wide : ℕ → Bool = λ o. is_dead_object dead o || is_dead_object more o in
    let same : mask_where wide t ≡ dead_mask_of dead t =
    mask_where-agree wide (is_dead_object dead) t (λ p o at. widened (is_dead_object dead o) (is_dead_object more o)
    (none_passes (λ o. not (is_dead_object dead o) && is_dead_object more o) (objects_of t) o none (object-among t p o at))) in
    subst (IsCutWord m w) same
    (cut-more_dead m w (dead_mask_of more t) (mask_where wide t)
    (mask_where-mono (is_dead_object more) wide t t (λ o. or_right (is_dead_object dead o) (is_dead_object more o)) (below-refl t)) cut)

pub cut_by_own_death-lem : (m : Meaning) → CutByOwnDeath m
cut_by_own_death-lem m w t dead more alive cut =
    let newly : ℕ → Bool = λ o. not (is_dead_object dead o) && is_dead_object more o in
    elim (cases_Bool (list_any newly (objects_of t))) [
      | inl some ↦
          let from = list_any-from newly (objects_of t) some in
          let parts = and_parts (not (is_dead_object dead from.0)) (is_dead_object more from.0) from.2 in
          (from.0, from.1, not-true (is_dead_object dead from.0) parts.0, parts.1)
      | inr none ↦ absurd (alive (none-newly_dead m w t dead more none cut))
    ]

-- ---- flags of a history
pub flags_tell_parameters-lem : FlagsTellParameters
flags_tell_parameters-lem h dead t flags = mask_where-agree (is_dead h) (is_dead_object dead) t (λ p o at. flags o)

pub flags_tell_live-lem : FlagsTellLive
flags_tell_live-lem h dead b flags = (
  (λ none o c. let at = object-placed b o c in sym (flags o) ∙ live-object h b at.0 o none at.1),
  (λ live. first_dead-None h b (λ p o at. flags o ∙ live o (object-among b p o at))),
)

or_nothing : (v : Bool) → (v || false) ≡ v
or_nothing true = refl
or_nothing false = refl

no_flag : (n o : ℕ) → is_dead_object (replicate n false) o ≡ false
no_flag zero o = refl
no_flag (suc n) zero = refl
no_flag (suc n) (suc o) = no_flag n o

-- what is dead after a death
one_dead_more : (h : List Entry) (x : Entry) (o q : ℕ) → accepted_death x.step x.outcome ≡ Some o → is_dead (h ++ x ∷ []) q ≡ (is_dead h q || (o == q))
one_dead_more h x o q e =
    ap (list_any (λ p. p == q)) (dead_of-accepted h x o e) ∙ list_any-append (λ p. p == q) (dead_of h) (o ∷ [])
    ∙ ap (λ v. is_dead h q || v) (or_nothing (o == q))

pub flags_after_death-lem : FlagsAfterDeath
flags_after_death-lem h dead x o flags e within q =
    one_dead_more h x o q e
    ∙ elim (cases_eq q o) [
      | inl same ↦ or_right (is_dead h q) (o == q) (eq-eqb o q (sym same))
          ∙ sym (ap (is_dead_object (after_death dead o)) same ∙ get_or-set_same dead o true false within)
      | inr other ↦ ap (λ v. is_dead h q || v) (ne_eqb o q (λ same. other (sym same))) ∙ or_nothing (is_dead h q)
          ∙ flags q ∙ sym (get_or-set_other dead o q true false other)
    ]

pub flags_after_other-lem : FlagsAfterOther
flags_after_other-lem h dead x flags e o = ap (list_any (λ q. q == o)) (dead_of-other h x e) ∙ flags o

pub flags_at_start-lem : FlagsAtStart
flags_at_start-lem n o = sym (no_flag n o)
