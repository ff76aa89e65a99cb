use Rattle.std.proofs.Common.{ℕ, zero, suc, All, ◌≡◌, ◌≢◌, ◌<◌, ◌⊎◌, inl, inr, List, [], ◌∷◌, ◌++◌, Some, length, map, get_or, slice_get, Contains, refl, sym, ap, subst, ◌∙◌, arith, length-append, set}
use Rattle.std.proofs.lemmas.List.{length-map}
use Rattle.std.proofs.lemmas.List.{map-set, get_or-set_same, get_or-set_other, get_or_default}
use Rattle.std.proofs.lemmas.List.Elements.{All-head, All-tail, Contains-get_or, Contains-push, Contains-push_cases, Contains-append_left}
use Rattle.jm_table.proofs.PlaceLemmas.{slice_get-push_cases, place-Contains}
use Rattle.jm_table.specs.Buckets.{bucket_of, IsIndex}

module _ {D : Type 0} (key : D → ℕ) where
  -- one more is known, and its number stands in the bucket of its key
  pub index_more : (found : List D) (buckets after : List (List ℕ)) (d : D) (number : ℕ) → number ≡ length found → IsIndex key found buckets
      → bucket_of after (key d) ≡ bucket_of buckets (key d) ++ number ∷ []
      → ((q : ℕ) → (bucket_of after q ≡ bucket_of buckets q) ⊎ (bucket_of after q ≡ bucket_of buckets q ++ number ∷ []))
      → IsIndex key (found ++ d ∷ []) after
  index_more found buckets after d number is_last index here others = record {
    each = λ k e h. elim (slice_get-push_cases found d k e h) [
      | inl before ↦ elim (others (key e)) [
        | inl same ↦ subst (λ bucket. Contains bucket k) (sym same) (index.each k e before)
        | inr more ↦ subst (λ bucket. Contains bucket k) (sym more) (Contains-append_left (bucket_of buckets (key e)) (number ∷ []) k (index.each k e before))
      ]
      | inr last ↦ subst (λ x. Contains (bucket_of after (key x)) k) last.1
          (subst (λ bucket. Contains bucket k) (sym here) (subst (λ n. Contains (bucket_of buckets (key d) ++ number ∷ []) n) (is_last ∙ sym last.0) (Contains-push (bucket_of buckets (key d)) number)))
    ];
    within = λ q k h. let long = length-append found (d ∷ []) in elim (others q) [
      | inl same ↦ let old : Contains (bucket_of buckets q) k = subst (λ bucket. Contains bucket k) same h in omega (arith, long, index.within q k old)
      | inr more ↦ let new : Contains (bucket_of buckets q ++ number ∷ []) k = subst (λ bucket. Contains bucket k) more h in
          elim (Contains-push_cases (bucket_of buckets q) number k new) [ inl old ↦ omega (arith, long, index.within q k old) | inr e ↦ omega (arith, long, e, is_last) ]
    ];
  }

  -- each number of a bucket is one of data that was found
  pub number_within : (found : List D) (buckets : List (List ℕ)) (q : ℕ) (bucket : List ℕ) (i : ℕ) → IsIndex key found buckets → bucket ≡ bucket_of buckets q → i < length bucket → get_or bucket i 0 < length found
  number_within found buckets q bucket i index is lt =
      index.within q (get_or bucket i 0) (subst (λ (l : List ℕ). Contains l (get_or bucket i 0)) is (Contains-get_or bucket i 0 lt))

  -- data whose number does not stand in the bucket of its key was not found
  pub not_found : (found : List D) (buckets : List (List ℕ)) (d : D) (bucket : List ℕ) → IsIndex key found buckets → bucket ≡ bucket_of buckets (key d)
      → ((j : ℕ) → j < length bucket → slice_get found (get_or bucket j 0) ≡ Some d → ⊥) → Contains found d → ⊥
  not_found found buckets d bucket index is none there =
      let place = place-Contains found d there in
      let at = index.each place.0 d place.1 in
      let here : Contains bucket place.0 = subst (λ (l : List ℕ). Contains l place.0) (sym is) at in
      let number : get_or bucket here.0 0 ≡ place.0 = get_or_default bucket here.0 0 place.0 here.1 ∙ here.2 in
      none here.0 here.1 (ap (λ k. slice_get found k) number ∙ place.1)

module _ {X : Type 0} (f : X → List ℕ) (xs : List X) (i : ℕ) (x : X) where
  pub written_here : i < length xs → get_or (map f (set xs i x)) i [] ≡ f x
  written_here lt = rw (map-set f xs i x) (get_or-set_same (map f xs) i (f x) [] (omega (arith, length-map xs f)))

  pub written_elsewhere : (j : ℕ) → j ≢ i → get_or (map f (set xs i x)) j [] ≡ get_or (map f xs) j []
  written_elsewhere j other = rw (map-set f xs i x) (get_or-set_other (map f xs) i j (f x) [] other)

-- buckets that are all empty
pub empty_buckets : {X : Type 0} (f : X → List ℕ) (xs : List X) → All (λ x. f x ≡ []) xs → (j : ℕ) → get_or (map f xs) j [] ≡ []
empty_buckets f [] each j = refl
empty_buckets f (x ∷ xs) each zero = All-head (λ y. f y ≡ []) x xs each
empty_buckets f (x ∷ xs) each (suc j) = empty_buckets f xs (All-tail (λ y. f y ≡ []) x xs each) j
