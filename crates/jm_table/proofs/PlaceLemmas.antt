use Rattle.std.proofs.Common.{ℕ, ◌≡◌, ◌<◌, ◌⊎◌, inl, inr, suc, zero, List, [], ◌∷◌, ◌++◌, Some, length, get_or, slice_get, map, option_map, fold, Contains, refl, sym, ap, ◌∙◌, arith}
use Rattle.std.proofs.lemmas.Option.{slice_get-map}
use Rattle.std.proofs.lemmas.Option.{none-some, same_Some, slice_get_within, get_or_from_slice_get, slice_get-get_or}

-- What stands where in a list.

module _ {X : Type 0} where
  -- what stands in a list stands there in a longer one
  pub slice_get-append : (xs ys : List X) (k : ℕ) (x : X) → slice_get xs k ≡ Some x → slice_get (xs ++ ys) k ≡ Some x
  slice_get-append [] ys k x h = absurd (none-some x h)
  slice_get-append (y ∷ xs) ys zero x h = h
  slice_get-append (y ∷ xs) ys (suc k) x h = slice_get-append xs ys k x h

  pub slice_get-push : (xs : List X) (x : X) → slice_get (xs ++ x ∷ []) (length xs) ≡ Some x
  slice_get-push [] x = refl
  slice_get-push (y ∷ xs) x = slice_get-push xs x

  pub slice_get-push_cases : (xs : List X) (y : X) (k : ℕ) (x : X) → slice_get (xs ++ y ∷ []) k ≡ Some x → (slice_get xs k ≡ Some x) ⊎ ((k ≡ length xs) × (y ≡ x))
  slice_get-push_cases [] y zero x h = inr (refl, same_Some y x h)
  slice_get-push_cases [] y (suc k) x h = absurd (none-some x h)
  slice_get-push_cases (z ∷ xs) y zero x h = inl h
  slice_get-push_cases (z ∷ xs) y (suc k) x h =
      elim (slice_get-push_cases xs y k x h) [ inl before ↦ inl before | inr last ↦ inr (ap suc last.0, last.1) ]

  pub Contains-place : (xs : List X) (k : ℕ) (x : X) → slice_get xs k ≡ Some x → Contains xs x
  Contains-place xs k x h = (k, slice_get_within xs k x h, get_or_from_slice_get xs k x x h)

  pub place-Contains : (xs : List X) (x : X) → Contains xs x → (k : ℕ) × (slice_get xs k ≡ Some x)
  place-Contains xs x h = (h.0, slice_get-get_or xs h.0 x h.1 ∙ ap (λ y. Some y) h.2)

pub fold_push : {A B : Type 0} (f : B → A → B) (b : B) (xs : List A) (x : A) → fold f b (xs ++ x ∷ []) ≡ f (fold f b xs) x
fold_push f b [] x = refl
fold_push f b (y ∷ xs) x = fold_push f (f b y) xs x

-- what stands at a place that is there
pub place_of : {X : Type 0} (xs : List X) (k : ℕ) → k < length xs → (x : X) × (slice_get xs k ≡ Some x)
place_of [] k lt = absurd (omega arith)
place_of (x ∷ xs) zero lt = (x, refl)
place_of (x ∷ xs) (suc k) lt = place_of xs k (omega arith)

module _ {X Y : Type 0} (f : X → Y) (xs : List X) (i : ℕ) (x : X) where
  -- f of an element that was read
  pub map_place : i < length xs → x ≡ get_or xs i x → slice_get (map f xs) i ≡ Some (f x)
  map_place lt read = slice_get-map f xs i ∙ ap (λ o. option_map f o) (slice_get-get_or xs i x lt) ∙ ap (λ y. Some (f y)) (sym read)

  pub map_place_is : (y : Y) → i < length xs → x ≡ get_or xs i x → slice_get (map f xs) i ≡ Some y → f x ≡ y
  map_place_is y lt read at = same_Some (f x) y (sym (map_place lt read) ∙ at)
