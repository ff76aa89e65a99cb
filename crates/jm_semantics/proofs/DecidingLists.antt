-- Facts of lists by tests that compute.
use Rattle.std.proofs.Common.{◌≡◌, ℕ, zero, suc, ◌<◌, Bool, true, false, inl, inr, List, [], ◌∷◌, refl, sym, ◌∙◌, ap, subst, arith}
use Rattle.std.specs.Prelude.{Contains, ◌&&◌, ◌||◌, not}
use Rattle.std.specs.List.{list_any, list_all, AllByRecursion}
use Rattle.std.specs.Ordering.{is_lt}
use Rattle.std.specs.declared.cmp.Ordering.{Ordering}
use Rattle.std.specs.declared.cmp.Ordering.TheVariants.{Less, Equal, Greater}
use Rattle.std.specs.List.Sorted.{IsStrictlySortedBy}
use Rattle.std.proofs.lemmas.Bool.{false≢true, and_parts, or_cases, or_left, or_right, cases_eq}
use Rattle.jm_semantics.proofs.ListLemmas.{Contains-nil, Contains-head, Contains-cons, Contains-cons_cases}

-- ---- tests of elements
module _ {X : Type 0} where
  -- each element passes
  pub list_all-at : (p : X → Bool) (xs : List X) (x : X) → list_all p xs ≡ true → Contains xs x → p x ≡ true
  list_all-at p [] x a h = absurd (Contains-nil x h)
  list_all-at p (y ∷ xs) x a h =
      elim (Contains-cons_cases y xs x h) [
        | inl same ↦ ap p (sym same) ∙ (and_parts (p y) (list_all p xs) a).0
        | inr there ↦ list_all-at p xs x (and_parts (p y) (list_all p xs) a).1 there
      ]

  -- some element passes
  pub list_any-from : (p : X → Bool) (xs : List X) → list_any p xs ≡ true → (x : X) × Contains xs x × (p x ≡ true)
  list_any-from p [] a = absurd (false≢true a)
  list_any-from p (y ∷ xs) a =
      elim (or_cases (p y) (list_any p xs) a) [
        | inl here ↦ (y, Contains-head y xs, here)
        | inr later ↦ let r = list_any-from p xs later in (r.0, Contains-cons y xs r.0 r.1, r.2)
      ]

  -- some element that passes is there
  pub list_any-at : (p : X → Bool) (xs : List X) (x : X) → Contains xs x → p x ≡ true → list_any p xs ≡ true
  list_any-at p [] x h e = absurd (Contains-nil x h)
  list_any-at p (y ∷ xs) x h e =
      elim (Contains-cons_cases y xs x h) [
        | inl same ↦ or_left (p y) (list_any p xs) (ap p same ∙ e)
        | inr there ↦ or_right (p y) (list_any p xs) (list_any-at p xs x there e)
      ]

-- ---- membership
-- an element is there where the test finds one that is the same
pub member-tested : {X : Type 0} (same : X → X → Bool) → ((x y : X) → same x y ≡ true → x ≡ y) → (xs : List X) (x : X) → list_any (λ y. same y x) xs ≡ true → Contains xs x
member-tested same is xs x h = let r = list_any-from (λ y. same y x) xs h in subst (Contains xs) (is r.0 x r.2) r.1

-- an implication that is written as a test
pub implied : (a b : Bool) → (not a || b) ≡ true → a ≡ true → b ≡ true
implied true b h e = h
implied false b h e = absurd (false≢true e)

-- ---- order
-- whether each element is below those after it
abbrev pub sorted_test : {K : Type 0} → (K → K → Ordering) → List K → Bool
sorted_test R [] = true
sorted_test R (x ∷ xs) = list_all (λ y. is_lt (R x y)) xs && sorted_test R xs

-- a strictly increasing list
lt-Less : (r : Ordering) → is_lt r ≡ true → r ≡ Less
lt-Less Less h = refl
lt-Less Equal h = absurd (false≢true h)
lt-Less Greater h = absurd (false≢true h)

all-Less : {K : Type 0} (R : K → K → Ordering) (x : K) (xs : List K) → list_all (λ y. is_lt (R x y)) xs ≡ true → AllByRecursion (λ y. R x y ≡ Less) xs
all-Less R x [] h = tt
all-Less R x (y ∷ xs) h =
    let hs = and_parts (is_lt (R x y)) (list_all (λ y. is_lt (R x y)) xs) h in
    (lt-Less (R x y) hs.0, all-Less R x xs hs.1)

pub sorted-tested : {K : Type 0} (R : K → K → Ordering) (xs : List K) → sorted_test R xs ≡ true → IsStrictlySortedBy R xs
unfolding IsStrictlySortedBy
sorted-tested R [] h = tt
sorted-tested R (x ∷ xs) h =
    let hs = and_parts (list_all (λ y. is_lt (R x y)) xs) (sorted_test R xs) h in
    (all-Less R x xs hs.0, sorted-tested R xs hs.1)

-- ---- the numbers below n
abbrev pub numbers_below : ℕ → List ℕ
numbers_below zero = []
numbers_below (suc n) = n ∷ numbers_below n

pub Contains-numbers_below : (n k : ℕ) → k < n → Contains (numbers_below n) k
Contains-numbers_below zero k h = absurd (omega (arith, h))
Contains-numbers_below (suc n) k h =
    elim (cases_eq n k) [
      | inl same ↦ subst (Contains (n ∷ numbers_below n)) same (Contains-head n (numbers_below n))
      | inr other ↦ Contains-cons n (numbers_below n) k (Contains-numbers_below n k (omega (arith, h, other)))
    ]
