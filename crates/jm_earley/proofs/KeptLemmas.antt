-- Earley sets by their positions.
use Rattle.std.proofs.Common.{ℕ, zero, suc, ◌≡◌, ◌==◌, ◌<◌, ◌≤◌, ◌+◌, ◌-◌, Bool, true, false, cond, List, [], ◌∷◌, ◌++◌, Option, Some, None, Contains, length, slice_get, refl, sym, ap, subst, ◌∙◌, inl, inr, arith}
use Rattle.std.proofs.lemmas.Bool.{cases_lt, eq-eqb}
use Rattle.std.proofs.lemmas.Bool.Decides.{eqb_tells}
use Rattle.std.proofs.lemmas.Option.{none-some, same_Some, slice_get_within}
use Rattle.jm_earley.specs.declared.earley_set.EarleySet.{EarleySet}
use Rattle.jm_earley.specs.Kept.{IsSorted, place_at, IsPlaceNumber}
use Rattle.jm_earley.proofs.PlaceLemmas.{slice_get-push_cases, Contains-place}

pub none_from : {X : Type 0} (o : Option X) → ((x : X) → o ≡ Some x → ⊥) → o ≡ None
none_from None never = refl
none_from (Some x) never = absurd (never x refl)

at_head : (q : EarleySet) (ps : List EarleySet) (k : ℕ) → (q.position == k) ≡ true → place_at (q ∷ ps) k ≡ Some q
at_head q ps k e = ap (λ (b : Bool). cond b (Some q) (place_at ps k)) e

at_tail : (q : EarleySet) (ps : List EarleySet) (k : ℕ) → (q.position == k) ≡ false → place_at (q ∷ ps) k ≡ place_at ps k
at_tail q ps k e = ap (λ (b : Bool). cond b (Some q) (place_at ps k)) e

pub number_at : (ps : List EarleySet) (k : ℕ) (p : EarleySet) → place_at ps k ≡ Some p → (number : ℕ) × (slice_get ps number ≡ Some p) × (p.position ≡ k)
number_at [] k p h = absurd (none-some p h)
number_at (q ∷ ps) k p h = elim (eqb_tells q.position k) [
  | inl same ↦
      let is : q ≡ p = same_Some q p (sym (at_head q ps k same.0) ∙ h) in
      (0, ap (λ (r : EarleySet). Some r) is, subst (λ (r : EarleySet). r.position ≡ k) is same.1)
  | inr differs ↦
      let rest = number_at ps k p (sym (at_tail q ps k differs.0) ∙ h) in
      (suc rest.0, rest.1, rest.2)
]

sorted_tail : (q : EarleySet) (ps : List EarleySet) → IsSorted (q ∷ ps) → IsSorted ps
sorted_tail q ps sorted i j a b lt at_i at_j = sorted (suc i) (suc j) a b (omega (arith, lt)) at_i at_j

pub sorted_at : (ps : List EarleySet) → IsSorted ps → (number : ℕ) (p : EarleySet) → slice_get ps number ≡ Some p → place_at ps p.position ≡ Some p
sorted_at [] sorted number p h = absurd (none-some p h)
sorted_at (q ∷ ps) sorted zero p h =
    let is : q ≡ p = same_Some q p h in
    at_head q ps p.position (eq-eqb q.position p.position (ap (λ (r : EarleySet). r.position) is)) ∙ h
sorted_at (q ∷ ps) sorted (suc number) p h =
    let lt : q.position < p.position = sorted 0 (suc number) q p (omega arith) refl h in
    elim (eqb_tells q.position p.position) [
      | inl same ↦ absurd (omega (arith, lt, same.1))
      | inr differs ↦ at_tail q ps p.position differs.0 ∙ sorted_at ps (sorted_tail q ps sorted) number p h
    ]

-- what a look-up by number says of a look-up by position
pub found_at : (ps : List EarleySet) → IsSorted ps → (k number : ℕ) → (there : IsPlaceNumber ps k number) → place_at ps k ≡ Some there.0
found_at ps sorted k number there = subst (λ (n : ℕ). place_at ps n ≡ Some there.0) there.2 (sorted_at ps sorted number there.0 there.1)

pub not_at : (ps : List EarleySet) (k : ℕ) → ((number : ℕ) → IsPlaceNumber ps k number → ⊥) → place_at ps k ≡ None
not_at ps k never = none_from (place_at ps k) (λ p at. let there = number_at ps k p at in never there.0 (p, there.1, there.2))

-- numbers and positions go together
pub number_le : (ps : List EarleySet) → IsSorted ps → (i j : ℕ) (p q : EarleySet) → slice_get ps i ≡ Some p → slice_get ps j ≡ Some q → p.position ≤ q.position → i ≤ j
number_le ps sorted i j p q at_i at_j le = elim (cases_lt j i) [
  | inl lt ↦ absurd (omega (arith, le, sorted j i q p lt at_j at_i))
  | inr ge ↦ ge
]

-- one place more, after the others
pub sorted_push : (ps : List EarleySet) (p : EarleySet) → IsSorted ps → ((q : EarleySet) → Contains ps q → q.position < p.position) → IsSorted (ps ++ p ∷ [])
sorted_push ps p sorted behind i j a b lt at_i at_j = elim (slice_get-push_cases ps p i a at_i) [
  | inl first ↦ elim (slice_get-push_cases ps p j b at_j) [
    | inl second ↦ sorted i j a b lt first second
    | inr last ↦ subst (λ (q : EarleySet). a.position < q.position) last.1 (behind a (Contains-place ps i a first))
  ]
  | inr end ↦ elim (slice_get-push_cases ps p j b at_j) [
    | inl second ↦ absurd (omega (arith, lt, end.0, slice_get_within ps j b second))
    | inr last ↦ absurd (omega (arith, lt, end.0, last.0))
  ]
]

-- ---- the search by halves

-- the position may stand between the two numbers, and nowhere else
abbrev pub IsBetween : List EarleySet → ℕ → ℕ → ℕ → Type 0
IsBetween ps position low high = (number : ℕ) (p : EarleySet) → slice_get ps number ≡ Some p → p.position ≡ position → (low ≤ number) × (number < high)

-- the last place is after the others
pub last_behind : (ps : List EarleySet) → IsSorted ps → (last : EarleySet) → slice_get ps (length ps - 1) ≡ Some last → (number : ℕ) (p : EarleySet) → slice_get ps number ≡ Some p → p.position < last.position + 1
last_behind ps sorted last end number p at =
    elim (cases_lt last.position p.position) [
      | inl lt ↦
          let within = slice_get_within ps number p at in
          let le = number_le ps sorted (length ps - 1) number last p end at (omega (arith, lt)) in
          let same : number ≡ length ps - 1 = omega (arith, within, le) in
          let is : p ≡ last = same_Some p last (sym at ∙ ap (λ (k : ℕ). slice_get ps k) same ∙ end) in
          absurd (omega (arith, lt, ap (λ (q : EarleySet). q.position) is))
      | inr ge ↦ omega (arith, ge)
    ]
