-- The instances after an event, each with its slice.
use Rattle.std.proofs.Common.{◌≡◌, ℕ, zero, suc, ◌+◌, ◌<◌, take, drop, get_or, arith, add-one, Bool, true, false, inl, inr, List, [], ◌∷◌, ◌++◌, length, map, refl, sym, ap, ◌∙◌, subst}
use Rattle.std.specs.Prelude.{Contains, slice_set, ◌&&◌, ◌||◌, not, filter, if◌then◌else◌}
use Rattle.std.specs.List.{AllByRecursion}
use Rattle.std.proofs.lemmas.Bool.{false≢true, cases_Bool}
use Rattle.std.proofs.lemmas.List.Elements.{Contains-append_left, Contains-append_right, Contains-append_cases}
use Rattle.jm_model.specs.Meanings.{Meaning}
use Rattle.jm_model.specs.Bindings.{empty, is_below, is_compatible, join}
use Rattle.jm_model.specs.declared.binding.Binding.{Binding}
use Rattle.jm_semantics.specs.Traces.{ParametricEvent, seen_of, slice_of}
use Rattle.jm_semantics.specs.Instances.{IsInstance, join_below}
use Rattle.jm_semantics.proofs.ListLemmas.{Contains-nil, Contains-head, Contains-cons, Contains-cons_cases, Contains-filter, Contains-from_filter, Contains-map, filter-agree_within}
use Rattle.jm_semantics.proofs.BindingLemmas.{below-refl, below-trans, below-antisym, below-compatible, below-join_left, join-below}
use Rattle.jm_semantics.proofs.InstanceLemmas.{join_below-below, below-join_below, instance-join, join_below-instance, empty-instance, instance-append, instance-apart, instance-above, join_event-instance}
use Rattle.jm_semantics.proofs.HistoryLemmas.{slice_of-above, slice_of-apart}
use Rattle.jm_audit.specs.Slices.{Sliced, HasInstance, HaveLetters, AreInstancesOf, covers, makes_new, joined, new_instances, advanced, after_event}

-- ---- tests
and_both : (a b : Bool) → (a && b) ≡ true → (a ≡ true) × (b ≡ true)
and_both true b h = (refl, h)
and_both false b h = absurd (false≢true h)

both_and : (a b : Bool) → a ≡ true → b ≡ true → (a && b) ≡ true
both_and a b h k = ap (λ v. v && b) h ∙ k

not_true : (a : Bool) → not a ≡ true → a ≡ false
not_true true h = absurd (false≢true h)
not_true false h = refl

implied : (a b : Bool) → (not a || b) ≡ true → a ≡ true → b ≡ true
implied true b h k = h
implied false b h k = absurd (false≢true k)

by_implication : (a b : Bool) → (a ≡ true → b ≡ true) → (not a || b) ≡ true
by_implication true b h = h refl
by_implication false b h = refl

same_test : (a b : Bool) → (a ≡ true → b ≡ true) → (b ≡ true → a ≡ true) → a ≡ b
same_test true b f g = sym (f refl)
same_test false true f g = absurd (false≢true (g refl))
same_test false false f g = refl

-- ---- members
from_map : {X Y : Type 0} (f : X → Y) (xs : List X) (y : Y) → Contains (map f xs) y → (x : X) × Contains xs x × (f x ≡ y)
from_map f [] y h = absurd (Contains-nil y h)
from_map f (x ∷ xs) y h = elim (Contains-cons_cases (f x) (map f xs) y h) [
  | inl here ↦ (x, Contains-head x xs, here)
  | inr later ↦ let r = from_map f xs y later in (r.0, Contains-cons x xs r.0 r.1, r.2)
]

covers-from : (seen : List Binding) (above below : Binding) → covers seen above below ≡ true → (c : Binding) → Contains seen c → is_below c above ≡ true → is_below c below ≡ true
covers-from [] above below h c among = absurd (Contains-nil c among)
covers-from (x ∷ seen) above below h c among =
    let parts = and_both (not (is_below x above) || is_below x below) (covers seen above below) h in
    elim (Contains-cons_cases x seen c among) [
      | inl here ↦ λ k. subst (λ b. is_below b below ≡ true) here (implied (is_below x above) (is_below x below) parts.0 (subst (λ b. is_below b above ≡ true) (sym here) k))
      | inr later ↦ covers-from seen above below parts.1 c later
    ]

covers-by : (seen : List Binding) (above below : Binding) → ((c : Binding) → Contains seen c → is_below c above ≡ true → is_below c below ≡ true) → covers seen above below ≡ true
covers-by [] above below h = refl
covers-by (x ∷ seen) above below h =
    both_and (not (is_below x above) || is_below x below) (covers seen above below)
    (by_implication (is_below x above) (is_below x below) (h x (Contains-head x seen)))
    (covers-by seen above below (λ c among. h c (Contains-cons x seen c among)))

-- ---- one letter more
advanced-binding : (e : ℕ) (b : Binding) (i : Sliced) → (advanced e b i).binding ≡ i.binding
advanced-binding e b i = elim (is_below b i.binding) as (λ v. (if v then record { binding = i.binding; word = i.word ++ e ∷ [] } else i).binding ≡ i.binding) [ true ↦ refl | false ↦ refl ]

letters-push : (P : ℕ → Type 0) (w : List ℕ) (e : ℕ) → AllByRecursion P w → P e → AllByRecursion P (w ++ e ∷ [])
letters-push P [] e h k = (k, tt)
letters-push P (x ∷ w) e h k = (h.0, letters-push P w e h.1 k)

advanced-letters : (P : ℕ → Type 0) (e : ℕ) (b : Binding) (i : Sliced) → AllByRecursion P i.word → P e → AllByRecursion P (advanced e b i).word
advanced-letters P e b i h k = elim (is_below b i.binding) as (λ v. AllByRecursion P (if v then record { binding = i.binding; word = i.word ++ e ∷ [] } else i).word) [
  | true ↦ letters-push P i.word e h k
  | false ↦ h
]

-- a new instance comes of an old one
record IsMade (seen : List Binding) (b : Binding) (instances : List Sliced) (i : Sliced) : Type 0 where
  base : Sliced
  among : Contains instances base
  compatible : is_compatible base.binding b ≡ true
  apart : is_below b base.binding ≡ false
  covered : (c : Binding) → Contains seen c → is_below c (join base.binding b) ≡ true → is_below c base.binding ≡ true
  is : joined b base ≡ i

made : (seen : List Binding) (b : Binding) (instances : List Sliced) (i : Sliced) → Contains (new_instances seen b instances) i → IsMade seen b instances i
made seen b instances i h =
    let from = from_map (joined b) (filter (λ (s : Sliced). makes_new seen b s.binding) instances) i h in
    let kept = Contains-from_filter (λ (s : Sliced). makes_new seen b s.binding) instances from.0 from.1 in
    let s = from.0.binding in
    let parts = and_both (is_compatible s b) (not (is_below b s) && covers seen (join s b) s) kept.1 in
    let more = and_both (not (is_below b s)) (covers seen (join s b) s) parts.1 in
    record {
      base = from.0;
      among = kept.0;
      compatible = parts.0;
      apart = not_true (is_below b s) more.0;
      covered = covers-from seen (join s b) s more.1;
      is = from.2;
    }

-- ---- letters
new-letters : (m : Meaning) (seen : List Binding) (b : Binding) (instances : List Sliced) → HaveLetters m instances → HaveLetters m (new_instances seen b instances)
new-letters m seen b instances h i among =
    let p = made seen b instances i among in
    subst (λ (x : Sliced). AllByRecursion (λ l. l < m.letters) x.word) p.is (h p.base p.among)

pub letters_after : (m : Meaning) (e : ℕ) (b : Binding) (seen : List Binding) (instances : List Sliced) → e < m.letters → HaveLetters m instances → HaveLetters m (after_event e b seen instances)
letters_after m e b seen instances there h i among =
    let from = from_map (advanced e b) (instances ++ new_instances seen b instances) i among in
    let before : AllByRecursion (λ l. l < m.letters) from.0.word = elim (Contains-append_cases instances (new_instances seen b instances) from.0 from.1) [
      | inl old ↦ h from.0 old
      | inr new ↦ new-letters m seen b instances h from.0 new
    ] in
    subst (λ (x : Sliced). AllByRecursion (λ l. l < m.letters) x.word) from.2 (advanced-letters (λ l. l < m.letters) e b from.0 before there)

-- ---- the event
module _ (m : Meaning) (trace : List ParametricEvent) (a : ParametricEvent) (instances : List Sliced) (eight : length a.binding ≡ 8) (are : AreInstancesOf m trace instances) where
  abbrev b : Binding
  b = a.binding

  abbrev seen : List Binding
  seen = seen_of trace

  abbrev new : List Sliced
  new = new_instances seen b instances

  made-instance : (i : Sliced) → Contains new i → IsInstance (trace ++ a ∷ []) i.binding
  made-instance i among =
      let p = made seen b instances i among in
      let base : IsInstance trace p.base.binding = (are.exact p.base.binding).0 (p.base, p.among, refl) in
      subst (λ (x : Sliced). IsInstance (trace ++ a ∷ []) x.binding) p.is (join_event-instance trace a p.base.binding base p.compatible)

  made-slice : (i : Sliced) → Contains new i → i.word ≡ slice_of trace i.binding
  made-slice i among =
      let p = made seen b instances i among in
      let s = p.base.binding in
      let agree : slice_of trace s ≡ slice_of trace (join s b) =
      ap (map (λ (x : ParametricEvent). x.letter)) (filter-agree_within (λ (x : ParametricEvent). is_below x.binding s) (λ (x : ParametricEvent). is_below x.binding (join s b)) trace
      (λ x within. same_test (is_below x.binding s) (is_below x.binding (join s b))
      (λ k. below-trans x.binding s (join s b) k (below-join_left s b p.compatible))
      (p.covered x.binding (Contains-map (λ (y : ParametricEvent). y.binding) trace x within)))) in
      subst (λ (x : Sliced). x.word ≡ slice_of trace x.binding) p.is (are.slices p.base p.among ∙ agree)

  before-slice : (i : Sliced) → Contains (instances ++ new) i → i.word ≡ slice_of trace i.binding
  before-slice i among = elim (Contains-append_cases instances new i among) [ inl old ↦ are.slices i old | inr fresh ↦ made-slice i fresh ]

  advanced-slice : (i : Sliced) → i.word ≡ slice_of trace i.binding → (advanced a.letter b i).word ≡ slice_of (trace ++ a ∷ []) i.binding
  advanced-slice i is = elim (cases_Bool (is_below b i.binding)) [
    | inl above ↦
        ap (λ v. (if v then record { binding = i.binding; word = i.word ++ a.letter ∷ [] } else i).word) above
        ∙ ap (λ w. w ++ a.letter ∷ []) is ∙ sym (slice_of-above trace a i.binding above)
    | inr apart ↦
        ap (λ v. (if v then record { binding = i.binding; word = i.word ++ a.letter ∷ [] } else i).word) apart
        ∙ is ∙ sym (slice_of-apart trace a i.binding apart)
  ]

  -- the join of seen bindings that makes the instance, if it is new
  new_or_old : (t : Binding) → is_below b t ≡ true → IsInstance (trace ++ a ∷ []) t → HasInstance (instances ++ new) t
  new_or_old t above after =
      let s = join_below trace t in
      let base = join_below-instance trace t after.eight in
      let low : is_below s t ≡ true = join_below-below trace t after.eight in
      let fits : is_compatible s b ≡ true = below-compatible s b t low above in
      let is : t ≡ join s b = instance-above trace a t above after in
      let i = (are.exact s).1 base in
      elim (cases_Bool (is_below b s)) [
        | inl within ↦
            let same : join s b ≡ s = below-antisym (join s b) s (join-below s b s (below-refl s) within) (below-join_left s b fits) in
            (i.0, Contains-append_left instances new i.0 i.1, i.2 ∙ sym (is ∙ same))
        | inr apart ↦
            let mine : i.0.binding ≡ s = i.2 in
            let covered : covers seen (join s b) s ≡ true = covers-by seen (join s b) s (λ c among k. below-join_below trace t c after.eight among (subst (λ x. is_below c x ≡ true) (sym is) k)) in
            let test : makes_new seen b s ≡ true = both_and (is_compatible s b) (not (is_below b s) && covers seen (join s b) s) fits (both_and (not (is_below b s)) (covers seen (join s b) s) (ap not apart) covered) in
            let picked : Contains (filter (λ (x : Sliced). makes_new seen b x.binding) instances) i.0 =
            Contains-filter (λ (x : Sliced). makes_new seen b x.binding) instances i.0 i.1 (subst (λ x. makes_new seen b x ≡ true) (sym mine) test) in
            (joined b i.0, Contains-append_right instances new (joined b i.0) (Contains-map (joined b) _ i.0 picked), ap (λ x. join x b) mine ∙ sym is)
      ]

  whole : (t : Binding) → IsInstance (trace ++ a ∷ []) t → HasInstance (instances ++ new) t
  whole t after = elim (cases_Bool (is_below b t)) [
    | inl above ↦ new_or_old t above after
    | inr apart ↦ let i = (are.exact t).1 (instance-apart trace a t apart after) in (i.0, Contains-append_left instances new i.0 i.1, i.2)
  ]

  pub instances_after : a.letter < m.letters → AreInstancesOf m (trace ++ a ∷ []) (after_event a.letter b seen instances)
  instances_after there = record {
    exact = λ t. (
      (λ h.
          let from = from_map (advanced a.letter b) (instances ++ new) h.0 h.1 in
          let same : from.0.binding ≡ t = sym (advanced-binding a.letter b from.0) ∙ ap (λ (x : Sliced). x.binding) from.2 ∙ h.2 in
          subst (IsInstance (trace ++ a ∷ [])) same
          (elim (Contains-append_cases instances new from.0 from.1) [
            | inl old ↦ instance-append trace (a ∷ []) from.0.binding ((are.exact from.0.binding).0 (from.0, old, refl))
            | inr fresh ↦ made-instance from.0 fresh
          ])),
      (λ after.
          let i = whole t after in
          (advanced a.letter b i.0, Contains-map (advanced a.letter b) (instances ++ new) i.0 i.1, advanced-binding a.letter b i.0 ∙ i.2)),
    );
    slices = λ i among.
        let from = from_map (advanced a.letter b) (instances ++ new) i among in
        subst (λ (x : Sliced). x.word ≡ slice_of (trace ++ a ∷ []) x.binding) from.2
        (advanced-slice from.0 (before-slice from.0 from.1) ∙ ap (slice_of (trace ++ a ∷ [])) (sym (advanced-binding a.letter b from.0)));
    letters = letters_after m a.letter b seen instances there are.letters;
  }

-- before the first event there is the empty instance
pub instances_at_start : (m : Meaning) → AreInstancesOf m [] (record { binding = empty; word = [] } ∷ [])
instances_at_start m = record {
  exact = λ t. (
    (λ h. subst (IsInstance []) (bound h.0 h.1 ∙ h.2) (empty-instance [])),
    (λ i. (record { binding = empty; word = [] }, Contains-head _ [], sym (instance-join [] t i))),
  );
  slices = λ i among. subst (λ (x : Sliced). x.word ≡ slice_of [] x.binding) (only i among) refl;
  letters = λ i among. subst (λ (x : Sliced). AllByRecursion (λ e. e < m.letters) x.word) (only i among) tt;
}
  where
    only : (i : Sliced) → Contains (record { binding = empty; word = [] } ∷ []) i → record { binding = empty; word = [] } ≡ i
    only i among = elim (Contains-cons_cases (record { binding = empty; word = [] }) [] i among) [ inl same ↦ same | inr none ↦ absurd (Contains-nil i none) ]

    bound : (i : Sliced) → Contains (record { binding = empty; word = [] } ∷ []) i → empty ≡ i.binding
    bound i among = ap (λ (x : Sliced). x.binding) (only i among)

-- ---- in place
-- the element after those that were changed is changed too
pub advanced_more : {X : Type 0} (f : X → X) (xs now : List X) (i : ℕ) (x y : X) → i < length xs → now ≡ map f (take i xs) ++ drop i xs → x ≡ get_or now i x → y ≡ f x
    → slice_set now i y ≡ map f (take (i + 1) xs) ++ drop (i + 1) xs
advanced_more {X} f xs now i x y there is at new =
    rw (add-one i) (ap (λ l. slice_set l i y) is ∙ go xs i there (at ∙ ap (λ l. get_or l i x) is))
  where
    go : (ys : List X) (k : ℕ) → k < length ys → x ≡ get_or (map f (take k ys) ++ drop k ys) k x → slice_set (map f (take k ys) ++ drop k ys) k y ≡ map f (take (suc k) ys) ++ drop (suc k) ys
    go [] k less e = absurd (omega (arith, less))
    go (z ∷ ys) zero less e = ap (λ v. v ∷ ys) (new ∙ ap f e)
    go (z ∷ ys) (suc k) less e = ap (λ l. f z ∷ l) (go ys k (omega (arith, less)) e)
