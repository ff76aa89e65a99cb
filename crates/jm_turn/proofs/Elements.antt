-- Elements by their places.
use Rattle.std.proofs.Common.{◌≡◌, ℕ, zero, suc, ◌⊎◌, List, [], ◌∷◌, ◌++◌, length, get_or, Some, slice_get, All, Any, refl, inl, inr, ⊎_elim, subst, arith}
use Rattle.std.proofs.lemmas.Option.{slice_get_within, slice_get-get_or, get_or_from_slice_get}

module _ {A : Type 0} where
  pub get_snoc : (xs : List A) (x y : A) (k : ℕ) → slice_get (xs ++ x ∷ []) k ≡ Some y → (slice_get xs k ≡ Some y) ⊎ ((k ≡ length xs) × (x ≡ y))
  get_snoc [] x y zero e = inr (refl, cc (e))
  get_snoc [] x y (suc k) e = absurd (cc (e))
  get_snoc (z ∷ xs) x y zero e = inl e
  get_snoc (z ∷ xs) x y (suc k) e = ⊎_elim (λ (h : slice_get xs k ≡ Some y). inl h) (λ (h : (k ≡ length xs) × (x ≡ y)). let n = h.0 in inr (omega arith, h.1)) (get_snoc xs x y k e)

  pub get_last : (xs : List A) (x : A) → slice_get (xs ++ x ∷ []) (length xs) ≡ Some x
  get_last [] x = refl
  get_last (z ∷ xs) x = get_last xs x

  pub get_longer : (xs : List A) (x y : A) (k : ℕ) → slice_get xs k ≡ Some y → slice_get (xs ++ x ∷ []) k ≡ Some y
  get_longer [] x y k e = absurd (cc (e))
  get_longer (z ∷ xs) x y zero e = e
  get_longer (z ∷ xs) x y (suc k) e = get_longer xs x y k e

  -- what holds at each place holds of all, and the other way round
  pub all_from_places : (P : A → Type 0) (xs : List A) → ((k : ℕ) (x : A) → slice_get xs k ≡ Some x → P x) → All P xs
  all_from_places P xs each k d less = each k (get_or xs k d) (slice_get-get_or xs k d less)

  pub place_from_all : (P : A → Type 0) (xs : List A) (k : ℕ) (x : A) → All P xs → slice_get xs k ≡ Some x → P x
  place_from_all P xs k x all at = subst P (get_or_from_slice_get xs k x x at) (all k x (slice_get_within xs k x at))

  pub any_from_place : (P : A → Type 0) (xs : List A) (k : ℕ) (x : A) → slice_get xs k ≡ Some x → P x → Any P xs
  any_from_place P xs k x at p = (k, x, slice_get_within xs k x at, get_or_from_slice_get xs k x x at, p)
