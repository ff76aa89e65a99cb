-- What stands at a place of a list.
use Rattle.std.proofs.Common.{◌≡◌, ◌≢◌, ℕ, zero, suc, ◌+◌, ◌<◌, List, [], ◌∷◌, ◌++◌, length, map, take, Some, slice_get, slice_set, refl, sym, ap, ◌∙◌, arith, ◌⊎◌, inl, inr}
use Rattle.std.specs.Prelude.{Contains}
use Rattle.std.proofs.lemmas.Option.{same_Some, none-some, slice_get_within, get_or_from_slice_get}

-- there is something at each place of a list
pub get_there : {A : Type 0} (xs : List A) (k : ℕ) → k < length xs → (x : A) × (slice_get xs k ≡ Some x)
get_there [] k h = absurd (omega arith)
get_there (x ∷ xs) zero h = (x, refl)
get_there (x ∷ xs) (suc k) h = get_there xs k (omega arith)

-- what a changed list has at a place
pub set_cases : {A : Type 0} (xs : List A) (n k : ℕ) (v x : A) → slice_get (slice_set xs n v) k ≡ Some x → ((k ≡ n) × (x ≡ v)) ⊎ ((k ≢ n) × (slice_get xs k ≡ Some x))
set_cases [] n k v x e = absurd (cc (e))
set_cases (y ∷ xs) zero zero v x e = inl (refl, cc)
set_cases (y ∷ xs) zero (suc k) v x e = inr ((λ same. absurd (omega arith)), e)
set_cases (y ∷ xs) (suc n) zero v x e = inr ((λ same. absurd (omega arith)), e)
set_cases (y ∷ xs) (suc n) (suc k) v x e = elim (set_cases xs n k v x e) [ inl same ↦ inl (ap suc same.0, same.1) | inr other ↦ inr ((λ same. other.0 (omega arith)), other.1) ]

pub set_other : {A : Type 0} (xs : List A) (n k : ℕ) (v : A) → n < k → slice_get (slice_set xs n v) k ≡ slice_get xs k
set_other [] n k v h = refl
set_other (y ∷ xs) zero zero v h = absurd (omega arith)
set_other (y ∷ xs) zero (suc k) v h = refl
set_other (y ∷ xs) (suc n) zero v h = absurd (omega arith)
set_other (y ∷ xs) (suc n) (suc k) v h = set_other xs n k v (omega arith)

-- what stands at a place of a mapped list comes from that place
pub map_get : {A B : Type 0} (f : A → B) (xs : List A) (k : ℕ) (y : B) → slice_get (map f xs) k ≡ Some y → (x : A) × (slice_get xs k ≡ Some x) × (y ≡ f x)
map_get f [] k y e = absurd (cc (e))
map_get f (x ∷ xs) zero y e = (x, refl, sym (same_Some (f x) y e))
map_get f (x ∷ xs) (suc k) y e = map_get f xs k y e

pub contains_at : {A : Type 0} (xs : List A) (k : ℕ) (x : A) → slice_get xs k ≡ Some x → Contains xs x
contains_at xs k x e = (k, slice_get_within xs k x e, get_or_from_slice_get xs k x x e)

-- one element more
pub take_place : {A : Type 0} (xs : List A) (k : ℕ) (x : A) → slice_get xs k ≡ Some x → take (k + 1) xs ≡ take k xs ++ x ∷ []
take_place [] k x e = absurd (none-some x e)
take_place (y ∷ xs) zero x e = ap (λ z. z ∷ []) (same_Some y x e)
take_place (y ∷ xs) (suc k) x e =
    let more : suc k + 1 ≡ suc (k + 1) = omega arith in
    rw more (ap (λ l. y ∷ l) (take_place xs k x e))

-- an element that stays in its place
pub set_same : {A : Type 0} (xs : List A) (k : ℕ) (x : A) → slice_get xs k ≡ Some x → slice_set xs k x ≡ xs
set_same [] k x e = refl
set_same (y ∷ xs) zero x e = ap (λ z. z ∷ xs) (sym (same_Some y x e))
set_same (y ∷ xs) (suc k) x e = ap (λ l. y ∷ l) (set_same xs k x e)

pub set_back : {A : Type 0} (xs before : List A) (k : ℕ) (old new : A) → xs ≡ before → slice_get xs k ≡ Some old → new ≡ old → slice_set xs k new ≡ before
set_back xs before k old new same at kept = ap (λ x. slice_set xs k x) kept ∙ set_same xs k old at ∙ same
