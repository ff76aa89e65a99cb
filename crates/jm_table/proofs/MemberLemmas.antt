-- The places of a list at which something holds, as a loop over the list finds them.
use Rattle.std.proofs.Common.{ℕ, ◌≡◌, ◌<◌, ◌+◌, ◌↔◌, inl, inr, Bool, true, false, All, List, [], ◌∷◌, ◌++◌, Option, Some, None, IsSomeAnd, Contains, length, get_or, slice_get, subst, arith}
use Rattle.std.proofs.lemmas.Bool.{cases_lt}
use Rattle.std.proofs.lemmas.Option.{slice_get_past}
use Rattle.std.proofs.lemmas.List.Elements.{Contains-get_or, Contains-push, Contains-push_cases, Contains-append_left}
use Rattle.jm_table.specs.Members.{ArePlaces}

module _ {X : Type 0} where
  pub holds_at : (P : X → Type 0) (o : Option X) (x : X) → o ≡ Some x → P x → IsSomeAnd o P
  holds_at P o x e h = rw e h

  pub from_holds : (P : X → Type 0) (o : Option X) (x : X) → o ≡ Some x → IsSomeAnd o P → P x
  from_holds P o x e h = rw e at h

  pub within_holds : (P : X → Type 0) (xs : List X) (place : ℕ) → IsSomeAnd (slice_get xs place) P → place < length xs
  within_holds P [] place h = absurd h
  within_holds P (x ∷ xs) place h = elim (cases_lt place (length (x ∷ xs))) [ inl lt ↦ lt | inr past ↦ absurd (subst (λ o. IsSomeAnd o P) (slice_get_past (x ∷ xs) place past) h) ]

  both_hold : (P Q : X → Type 0) (o : Option X) → ((x : X) → P x → Q x → ⊥) → IsSomeAnd o P → IsSomeAnd o Q → ⊥
  both_hold P Q (Some x) never p q = never x p q
  both_hold P Q None never p q = p

  each_holds : (P Q : X → Type 0) (o : Option X) → ((x : X) → P x → Q x) → IsSomeAnd o P → IsSomeAnd o Q
  each_holds P Q (Some x) more p = more x p
  each_holds P Q None more p = p

  module _ (Answers : X → Bool → Type 0) (xs : List X) where
    pub no_places : ArePlaces Answers xs 0 []
    no_places = record {
      below = λ place h. absurd (omega (arith, h.1));
      yes = λ place h. absurd (omega (arith, h.1));
      no = λ place lt. absurd (omega (arith, lt));
    }

    pub place_more : (i : ℕ) (x : X) (places : List ℕ) → slice_get xs i ≡ Some x → Answers x true → ArePlaces Answers xs i places → ArePlaces Answers xs (i + 1) (places ++ i ∷ [])
    place_more i x places at answer so_far = record {
      below = λ place h. elim (Contains-push_cases places i place h) [ inl old ↦ omega (arith, so_far.below place old) | inr e ↦ omega (arith, e) ];
      yes = λ place h. elim (Contains-push_cases places i place h) [
        | inl old ↦ so_far.yes place old
        | inr e ↦ subst (λ k. IsSomeAnd (slice_get xs k) (λ y. Answers y true)) e (holds_at (λ y. Answers y true) (slice_get xs i) x at answer)
      ];
      no = λ place lt. elim (cases_lt place i) [
        | inl old ↦ elim (so_far.no place old) [ inl is ↦ inl (Contains-append_left places (i ∷ []) place is) | inr none ↦ inr none ]
        | inr last ↦ let e : i ≡ place = omega (arith, lt, last) in inl (subst (λ k. Contains (places ++ i ∷ []) k) e (Contains-push places i))
      ];
    }

    pub place_same : (i : ℕ) (x : X) (places : List ℕ) → slice_get xs i ≡ Some x → Answers x false → ArePlaces Answers xs i places → ArePlaces Answers xs (i + 1) places
    place_same i x places at answer so_far = record {
      below = λ place h. omega (arith, so_far.below place h);
      yes = so_far.yes;
      no = λ place lt. elim (cases_lt place i) [
        | inl old ↦ so_far.no place old
        | inr last ↦ let e : i ≡ place = omega (arith, lt, last) in inr (subst (λ k. IsSomeAnd (slice_get xs k) (λ y. Answers y false)) e (holds_at (λ y. Answers y false) (slice_get xs i) x at answer))
      ];
    }

    -- where the answers tell of P, these are the places at which it holds
    pub members_are : (P : X → Type 0) (places : List ℕ) → ((x : X) → Answers x true → P x) → ((x : X) → Answers x false → P x → ⊥) → ArePlaces Answers xs (length xs) places
        → (place : ℕ) → Contains places place ↔ IsSomeAnd (slice_get xs place) P
    members_are P places holds fails are place = (
      λ h. each_holds (λ x. Answers x true) P (slice_get xs place) holds (are.yes place h),
      λ h. elim (are.no place (within_holds P xs place h)) [ inl is ↦ is | inr none ↦ absurd (both_hold (λ x. Answers x false) P (slice_get xs place) fails none h) ],
    )

    pub members_within : (n : ℕ) (places : List ℕ) → n ≡ length xs → ArePlaces Answers xs (length xs) places → All (λ place. place < n) places
    members_within n places e are k d lt = omega (arith, e, are.below (get_or places k d) (Contains-get_or places k d lt))
