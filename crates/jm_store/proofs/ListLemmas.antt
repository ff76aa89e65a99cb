use Rattle.std.proofs.Common.{◌≡◌, ℕ, zero, suc, ◌+◌, ◌<◌, List, [], ◌∷◌, ◌++◌, length, take, sym, ◌∙◌, ap, subst, inl, inr, ◌⊎◌, arith}
use Rattle.std.specs.Prelude.{Contains, Some, slice_get}
use Rattle.std.specs.List.{AllByRecursion}
use Rattle.std.specs.List.Sorted.{IsStrictlySortedBy}
use Rattle.std.specs.declared.cmp.Ordering.{Ordering}
use Rattle.std.specs.declared.cmp.Ordering.TheVariants.{Less}
use Rattle.std.proofs.lemmas.Bool.{cases_lt}
use Rattle.std.proofs.lemmas.Option.{none-some, same_Some}
use Rattle.std.proofs.lemmas.List.{get_or_default, take_more, length-append, length-take, length-take-le, get_or_append_left, get_or_push, get_or-take}
use Rattle.std.proofs.lemmas.List.Elements.{Contains-append_left, Contains-push, Contains-push_cases}
use Rattle.jm_semantics.proofs.ListLemmas.{Contains-head, Contains-cons}
use Rattle.jm_store.specs.Reports.{IsAt}

module _ {X : Type 0} where
  -- one element stands at a place
  pub at-same : (xs : List X) (k : ℕ) (x y : X) → IsAt xs k x → IsAt xs k y → x ≡ y
  at-same xs k x y h g = sym h.1 ∙ get_or_default xs k x y h.0 ∙ g.1

  -- what the first i + 1 have, the first i have, or it is the element at i
  pub Contains-take_more : (xs : List X) (i : ℕ) (x y : X) → IsAt xs i x → Contains (take (i + 1) xs) y → Contains (take i xs) y ⊎ (x ≡ y)
  Contains-take_more xs i x y h c =
      let same : take (i + 1) xs ≡ take i xs ++ x ∷ [] = take_more xs i x h.0 ∙ ap (λ z. take i xs ++ z ∷ []) h.1 in
      Contains-push_cases (take i xs) x y (subst (λ (l : List X). Contains l y) same c)

  pub Contains-take_older : (xs : List X) (i : ℕ) (x y : X) → IsAt xs i x → Contains (take i xs) y → Contains (take (i + 1) xs) y
  Contains-take_older xs i x y h c =
      let same : take (i + 1) xs ≡ take i xs ++ x ∷ [] = take_more xs i x h.0 ∙ ap (λ z. take i xs ++ z ∷ []) h.1 in
      subst (λ (l : List X). Contains l y) (sym same) (Contains-append_left (take i xs) (x ∷ []) y c)

  pub Contains-take_here : (xs : List X) (i : ℕ) (x : X) → IsAt xs i x → Contains (take (i + 1) xs) x
  Contains-take_here xs i x h =
      let same : take (i + 1) xs ≡ take i xs ++ x ∷ [] = take_more xs i x h.0 ∙ ap (λ z. take i xs ++ z ∷ []) h.1 in
      subst (λ (l : List X). Contains l x) (sym same) (Contains-push (take i xs) x)

module _ {K : Type 0} (R : K → K → Ordering) where
  each_after : (x : K) (ys : List K) → ((y : K) → Contains ys y → R x y ≡ Less) → AllByRecursion (λ y. R x y ≡ Less) ys
  each_after x [] h = tt
  each_after x (y ∷ ys) h = (h y (Contains-head y ys), each_after x ys (λ z c. h z (Contains-cons y ys z c)))

  both_after : (x : K) (xs ys : List K) → AllByRecursion (λ y. R x y ≡ Less) xs → AllByRecursion (λ y. R x y ≡ Less) ys → AllByRecursion (λ y. R x y ≡ Less) (xs ++ ys)
  both_after x [] ys h g = g
  both_after x (z ∷ xs) ys h g = (h.0, both_after x xs ys h.1 g)

  -- two lists in order, the second above the first
  pub sorted-append : (xs ys : List K) → IsStrictlySortedBy R xs → IsStrictlySortedBy R ys → ((x y : K) → Contains xs x → Contains ys y → R x y ≡ Less) → IsStrictlySortedBy R (xs ++ ys)
  unfolding IsStrictlySortedBy
  sorted-append [] ys s t h = t
  sorted-append (x ∷ xs) ys s t h = (
    both_after x xs ys s.0 (each_after x ys (λ y c. h x y (Contains-head x xs) c)),
    sorted-append xs ys s.1 t (λ z y c d. h z y (Contains-cons x xs z c) d),
  )

  pub sorted-one : (x : K) → IsStrictlySortedBy R (x ∷ [])
  unfolding IsStrictlySortedBy
  sorted-one x = (tt, tt)

  pub sorted-nil : IsStrictlySortedBy R []
  unfolding IsStrictlySortedBy
  sorted-nil = tt

module _ {X : Type 0} where
  -- places in a list with one element more
  pub at_push_left : (xs : List X) (x : X) (k : ℕ) (y : X) → IsAt xs k y → IsAt (xs ++ x ∷ []) k y
  at_push_left xs x k y h = (omega (arith, length-append xs (x ∷ []), h.0), get_or_append_left xs (x ∷ []) y k h.0 ∙ h.1)

  pub at_push_cases : (xs : List X) (x : X) (k : ℕ) (y : X) → IsAt (xs ++ x ∷ []) k y → IsAt xs k y ⊎ ((k ≡ length xs) × (x ≡ y))
  at_push_cases xs x k y h =
      elim (cases_lt k (length xs)) [
        | inl lt ↦ inl (lt, sym (get_or_append_left xs (x ∷ []) y k lt) ∙ h.1)
        | inr ge ↦
            let here : k ≡ length xs = omega (arith, length-append xs (x ∷ []), h.0) in
            inr (here, sym (get_or_push xs x y k (sym here)) ∙ h.1)
      ]

  -- the first i + 1 elements
  pub take_with : (xs : List X) (i : ℕ) (x : X) → IsAt xs i x → take (i + 1) xs ≡ take i xs ++ x ∷ []
  take_with xs i x h = take_more xs i x h.0 ∙ ap (λ z. take i xs ++ z ∷ []) h.1

  pub at_take_older : (xs : List X) (i : ℕ) (x : X) → IsAt xs i x → (k : ℕ) (y : X) → IsAt (take i xs) k y → IsAt (take (i + 1) xs) k y
  at_take_older xs i x h k y g = subst (λ (l : List X). IsAt l k y) (sym (take_with xs i x h)) (at_push_left (take i xs) x k y g)

  pub at_take_cases : (xs : List X) (i : ℕ) (x : X) → IsAt xs i x → (k : ℕ) (y : X) → IsAt (take (i + 1) xs) k y → IsAt (take i xs) k y ⊎ ((k ≡ i) × (x ≡ y))
  at_take_cases xs i x h k y g =
      elim (at_push_cases (take i xs) x k y (subst (λ (l : List X). IsAt l k y) (take_with xs i x h) g)) [
        | inl older ↦ inl older
        | inr here ↦ inr (here.0 ∙ length-take-le i xs (omega (arith, h.0)), here.1)
      ]

  pub at_take_here : (xs : List X) (i : ℕ) (x : X) → IsAt xs i x → IsAt (take (i + 1) xs) i x
  at_take_here xs i x h =
      let size = length-take-le i xs (omega (arith, h.0)) in
      subst (λ (l : List X). IsAt l i x) (sym (take_with xs i x h))
      (omega (arith, length-append (take i xs) (x ∷ []), size), get_or_push (take i xs) x x i size)

  pub at_from_take : (xs : List X) (i k : ℕ) (y : X) → IsAt (take i xs) k y → IsAt xs k y × (k < i)
  at_from_take xs i k y h =
      let size = length-take i xs in
      let lt : k < i = omega (arith, size, h.0) in
      ((omega (arith, size, h.0), sym (get_or-take i xs k y lt) ∙ h.1), lt)

-- what is at a place
get_at : {X : Type 0} (xs : List X) (i : ℕ) (x : X) → slice_get xs i ≡ Some x → IsAt xs i x
get_at [] i x e = absurd (none-some x e)
get_at (y ∷ xs) zero x e = (omega arith, same_Some y x e)
get_at (y ∷ xs) (suc i) x e = let g = get_at xs i x e in (omega (arith, g.0), g.1)

pub take_got : {X : Type 0} (xs : List X) (i : ℕ) (x : X) → slice_get xs i ≡ Some x → take (i + 1) xs ≡ take i xs ++ x ∷ []
take_got {X} xs i x e = let at = get_at xs i x e in take_more xs i x at.0 ∙ ap (λ (y : X). take i xs ++ y ∷ []) at.1
