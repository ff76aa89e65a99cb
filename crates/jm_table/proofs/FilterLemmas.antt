-- What a filter keeps: the elements that pass.
use Rattle.std.proofs.Common.{◌≡◌, ◌⊎◌, inl, inr, Bool, true, List, [], ◌∷◌, filter, Contains, refl, ap, subst, ◌∙◌, arith}
use Rattle.std.proofs.lemmas.Bool.{cases_Bool}
use Rattle.std.proofs.lemmas.List.Elements.{Contains-append_cases, Contains-append_right, Contains-push_cases}

pub Contains-cons_cases : {X : Type 0} (y : X) (xs : List X) (x : X) → Contains (y ∷ xs) x → (y ≡ x) ⊎ Contains xs x
Contains-cons_cases y xs x h =
    elim (Contains-append_cases (y ∷ []) xs x h)
    [ inl one ↦ elim (Contains-push_cases [] y x one) [ inl none ↦ absurd (omega (arith, none.1)) | inr e ↦ inl e ] | inr rest ↦ inr rest ]

pub Contains-head : {X : Type 0} (xs : List X) (x : X) → Contains (x ∷ xs) x
Contains-head xs x = (0, omega arith, refl)

pub kept_passes : {X : Type 0} (p : X → Bool) (xs : List X) (x : X) → Contains (filter p xs) x → p x ≡ true
kept_passes p [] x h = absurd (omega (arith, h.1))
kept_passes p (y ∷ xs) x h =
    elim (cases_Bool (p y)) [
      | inl passed ↦ let k : Contains (y ∷ filter p xs) x = rw passed at h in
          elim (Contains-cons_cases y (filter p xs) x k) [ inl e ↦ subst (λ z. p z ≡ true) e passed | inr rest ↦ kept_passes p xs x rest ]
      | inr failed ↦ let k : Contains (filter p xs) x = rw failed at h in kept_passes p xs x k
    ]

pub kept_is_there : {X : Type 0} (p : X → Bool) (xs : List X) (x : X) → Contains (filter p xs) x → Contains xs x
kept_is_there p [] x h = h
kept_is_there p (y ∷ xs) x h =
    elim (cases_Bool (p y)) [
      | inl passed ↦ let k : Contains (y ∷ filter p xs) x = rw passed at h in
          elim (Contains-cons_cases y (filter p xs) x k)
          [ inl e ↦ subst (λ z. Contains (y ∷ xs) z) e (Contains-head xs y) | inr rest ↦ Contains-append_right (y ∷ []) xs x (kept_is_there p xs x rest) ]
      | inr failed ↦ let k : Contains (filter p xs) x = rw failed at h in Contains-append_right (y ∷ []) xs x (kept_is_there p xs x k)
    ]

pub passing_is_kept : {X : Type 0} (p : X → Bool) (xs : List X) (x : X) → Contains xs x → p x ≡ true → Contains (filter p xs) x
passing_is_kept p [] x h passes = h
passing_is_kept p (y ∷ xs) x h passes =
    elim (Contains-cons_cases y xs x h) [
      | inl e ↦ let passed : p y ≡ true = ap p e ∙ passes in rw passed (subst (λ z. Contains (y ∷ filter p xs) z) e (Contains-head (filter p xs) y))
      | inr rest ↦ elim (cases_Bool (p y)) [
        | inl passed ↦ rw passed (Contains-append_right (y ∷ []) (filter p xs) x (passing_is_kept p xs x rest passes))
        | inr failed ↦ rw failed (passing_is_kept p xs x rest passes)
      ]
    ]
