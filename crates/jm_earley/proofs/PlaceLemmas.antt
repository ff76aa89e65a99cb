use Rattle.std.proofs.Common.{ℕ, ◌≡◌, ◌<◌, ◌+◌, ◌⊎◌, inl, inr, suc, zero, List, [], ◌∷◌, ◌++◌, Some, length, get_or, slice_get, take, drop, map, option_map, None, ◌≤◌, Contains, refl, sym, ap, ◌∙◌, arith, add-one, length-append}
use Rattle.std.proofs.lemmas.Option.{none-some, same_Some, slice_get_within, get_or_from_slice_get, slice_get-get_or, slice_get-map, slice_get_read}
use Rattle.std.proofs.lemmas.List.{map-append}

-- What stands where in a list.

module _ {X : Type 0} where
  pub slice_get-append : (xs ys : List X) (k : ℕ) (x : X) → slice_get xs k ≡ Some x → slice_get (xs ++ ys) k ≡ Some x
  slice_get-append [] ys k x h = absurd (none-some x h)
  slice_get-append (y ∷ xs) ys zero x h = h
  slice_get-append (y ∷ xs) ys (suc k) x h = slice_get-append xs ys k x h

  pub slice_get-push : (xs : List X) (x : X) → slice_get (xs ++ x ∷ []) (length xs) ≡ Some x
  slice_get-push [] x = refl
  slice_get-push (y ∷ xs) x = slice_get-push xs x

  pub slice_get-push_cases : (xs : List X) (y : X) (k : ℕ) (x : X) → slice_get (xs ++ y ∷ []) k ≡ Some x → (slice_get xs k ≡ Some x) ⊎ ((k ≡ length xs) × (y ≡ x))
  slice_get-push_cases [] y zero x h = inr (refl, same_Some y x h)
  slice_get-push_cases [] y (suc k) x h = absurd (none-some x h)
  slice_get-push_cases (z ∷ xs) y zero x h = inl h
  slice_get-push_cases (z ∷ xs) y (suc k) x h =
      elim (slice_get-push_cases xs y k x h) [ inl before ↦ inl before | inr last ↦ inr (ap suc last.0, last.1) ]

  pub Contains-place : (xs : List X) (k : ℕ) (x : X) → slice_get xs k ≡ Some x → Contains xs x
  Contains-place xs k x h = (k, slice_get_within xs k x h, get_or_from_slice_get xs k x x h)

  pub place-Contains : (xs : List X) (x : X) → Contains xs x → (k : ℕ) × (slice_get xs k ≡ Some x)
  place-Contains xs x h = (h.0, slice_get-get_or xs h.0 x h.1 ∙ ap (λ y. Some y) h.2)

  -- what stands at a place that is there
  pub place_of : (xs : List X) (k : ℕ) → k < length xs → (x : X) × (slice_get xs k ≡ Some x)
  place_of [] k lt = absurd (omega arith)
  place_of (x ∷ xs) zero lt = (x, refl)
  place_of (x ∷ xs) (suc k) lt = place_of xs k (omega arith)

  -- the list round a place
  pub split_at : (xs : List X) (k : ℕ) (x : X) → slice_get xs k ≡ Some x → xs ≡ take k xs ++ x ∷ drop (k + 1) xs
  split_at xs k x h = rw add-one (by xs k h)
    where
      by : (ys : List X) (j : ℕ) → slice_get ys j ≡ Some x → ys ≡ take j ys ++ x ∷ drop (suc j) ys
      by [] j e = absurd (none-some x e)
      by (y ∷ ys) zero e = ap (λ z. z ∷ ys) (same_Some y x e)
      by (y ∷ ys) (suc j) e = ap (λ l. y ∷ l) (by ys j e)

  -- the front with one element more
  pub take_next : (xs : List X) (k : ℕ) (x : X) → slice_get xs k ≡ Some x → take (k + 1) xs ≡ take k xs ++ x ∷ []
  take_next xs k x h = rw add-one (by xs k h)
    where
      by : (ys : List X) (j : ℕ) → slice_get ys j ≡ Some x → take (suc j) ys ≡ take j ys ++ x ∷ []
      by [] j e = absurd (none-some x e)
      by (y ∷ ys) zero e = ap (λ z. z ∷ []) (same_Some y x e)
      by (y ∷ ys) (suc j) e = ap (λ l. y ∷ l) (by ys j e)

  -- what stands in a front
  pub get-take : (xs : List X) (n k : ℕ) (x : X) → slice_get (take n xs) k ≡ Some x → (k < n) × (slice_get xs k ≡ Some x)
  get-take [] zero k x h = absurd (none-some x h)
  get-take [] (suc n) k x h = absurd (none-some x h)
  get-take (y ∷ xs) zero k x h = absurd (none-some x h)
  get-take (y ∷ xs) (suc n) zero x h = ((omega arith), h)
  get-take (y ∷ xs) (suc n) (suc k) x h = let rest = get-take xs n k x h in ((omega (arith, rest.0)), rest.1)

  pub take-get : (xs : List X) (n k : ℕ) (x : X) → k < n → slice_get xs k ≡ Some x → slice_get (take n xs) k ≡ Some x
  take-get [] n k x lt h = absurd (none-some x h)
  take-get (y ∷ xs) zero k x lt h = absurd (omega (arith, lt))
  take-get (y ∷ xs) (suc n) zero x lt h = h
  take-get (y ∷ xs) (suc n) (suc k) x lt h = take-get xs n k x (omega (arith, lt)) h

  -- what stands first after a front
  pub place_behind : (xs front : List X) (x : X) (back : List X) → xs ≡ front ++ x ∷ back → slice_get xs (length front) ≡ Some x
  place_behind xs front x back e = ap (λ l. slice_get l (length front)) e ∙ by front
    where
      by : (ys : List X) → slice_get (ys ++ x ∷ back) (length ys) ≡ Some x
      by [] = refl
      by (y ∷ ys) = by ys

  -- a back that begins with an element
  pub place_from_drop : (xs : List X) (k : ℕ) (x : X) (back : List X) → drop k xs ≡ x ∷ back → (slice_get xs k ≡ Some x) × (drop (k + 1) xs ≡ back)
  place_from_drop xs k x back h = let both = by xs k h in (both.0, rw add-one both.1)
    where
      head : (l : List X) → l ≡ x ∷ back → (slice_get l 0 ≡ Some x) × (drop 1 l ≡ back)
      head l e = rw e (refl, refl)

      by : (ys : List X) (j : ℕ) → drop j ys ≡ x ∷ back → (slice_get ys j ≡ Some x) × (drop (suc j) ys ≡ back)
      by ys zero e = head ys e
      by [] (suc j) e = absurd (cc)
      by (y ∷ ys) (suc j) e = by ys j e

  pub same_push : (xs ys : List X) (x y : X) → xs ++ x ∷ [] ≡ ys ++ y ∷ [] → (xs ≡ ys) × (x ≡ y)
  same_push [] [] x y e = (refl, cc)
  same_push [] (b ∷ ys) x y e = absurd (omega (arith, ap length e, length-append ys (y ∷ [])))
  same_push (a ∷ xs) [] x y e = absurd (omega (arith, ap length e, length-append xs (x ∷ [])))
  same_push (a ∷ xs) (b ∷ ys) x y e =
      let tail : xs ++ x ∷ [] ≡ ys ++ y ∷ [] = cc in
      let head : a ≡ b = cc in
      let rest = same_push xs ys x y tail in
      ((cc (rest.0, head)), rest.1)

  -- nothing stands past the end
  pub past_end : (xs : List X) (k : ℕ) → slice_get xs k ≡ None → length xs ≤ k
  past_end [] k h = omega arith
  past_end (x ∷ xs) zero h = absurd (none-some x (sym h))
  past_end (x ∷ xs) (suc k) h = omega (arith, past_end xs k h)

-- one copy more
pub copied_more : {X Y : Type 0} (f : X → Y) (items copy new : List X) (images : List Y) (i : ℕ) (item read : X) → i < length items → read ≡ get_or items i read → f item ≡ f read
    → map f items ≡ images → map f copy ≡ take i images → new ≡ copy ++ item ∷ [] → map f new ≡ take (i + 1) images
copied_more f items copy new images i item read lt is same images_are so_far more =
    let at : slice_get images i ≡ Some (f read) =
    ap (λ l. slice_get l i) (sym images_are) ∙ slice_get-map f items i ∙ ap (λ o. option_map f o) (slice_get_read items (length items) i read refl lt is) in
    let last : map f new ≡ map f copy ++ f item ∷ [] = ap (λ l. map f l) more ∙ map-append f copy (item ∷ []) in
    last ∙ ap (λ l. l ++ f item ∷ []) so_far ∙ ap (λ y. take i images ++ y ∷ []) same ∙ sym (take_next images i (f read) at)
