use Rattle.std.proofs.Common.{ℕ, ◌≡◌, ◌<◌, ◌+◌, ◌*◌, ◌/◌, ◌↔◌, inl, inr, List, [], ◌∷◌, ◌++◌, All, Contains, length, get_or, sym, subst, ◌∙◌, arith}
use Rattle.std.proofs.lemmas.Bool.{cases_lt}
use Rattle.std.proofs.lemmas.Nat.{mul-le, div_below}
use Rattle.std.proofs.Math.Nat.{le_refl}
use Rattle.std.proofs.lemmas.List.{get_or_push, get_or_append_left}
use Rattle.std.proofs.lemmas.List.Elements.{All-push, All-weaker, All-contains, Contains-push, Contains-push_cases, Contains-append_left}

-- Lists that loops over classes make.

module _ (members : List ℕ) (i : ℕ) (P : ℕ → Type 0) (below : All (λ c. c < i) members) (exact : (c : ℕ) → c < i → Contains members c ↔ P c) where
  still_below : All (λ c. c < i + 1) members
  still_below = All-weaker (λ c. c < i) (λ c. c < i + 1) (λ c lt. omega (arith, lt)) members below

  -- class i is a member
  pub member_more : P i → All (λ c. c < i + 1) (members ++ i ∷ []) × ((c : ℕ) → c < i + 1 → Contains (members ++ i ∷ []) c ↔ P c)
  member_more holds = (
    All-push (λ c. c < i + 1) members i still_below (omega arith),
    λ c within.
        elim (cases_lt c i) [
          | inl old ↦ (
            λ h. elim (Contains-push_cases members i c h) [ inl there ↦ (exact c old).0 there | inr e ↦ absurd (omega (arith, old, e)) ],
            λ p. Contains-append_left members (i ∷ []) c ((exact c old).1 p),
          )
          | inr last ↦ let here : i ≡ c = omega (arith, within, last) in (λ _. subst P here holds, λ _. subst (λ x. Contains (members ++ i ∷ []) x) here (Contains-push members i))
        ],
  )

  -- class i is no member
  pub no_member : (P i → ⊥) → All (λ c. c < i + 1) members × ((c : ℕ) → c < i + 1 → Contains members c ↔ P c)
  no_member fails = (
    still_below,
    λ c within.
        elim (cases_lt c i) [
          | inl old ↦ exact c old
          | inr last ↦
              let here : c ≡ i = omega (arith, within, last) in
              (λ there. absurd (omega (arith, last, All-contains (λ x. x < i) members c below there)), λ p. absurd (fails (subst P here p)))
        ],
  )

-- a list of values with one more
pub values_more : (xs : List ℕ) (v i : ℕ) (f : ℕ → ℕ) → length xs ≡ i → ((k : ℕ) → k < i → get_or xs k 0 ≡ f k) → v ≡ f i
    → (k : ℕ) → k < i + 1 → get_or (xs ++ v ∷ []) k 0 ≡ f k
values_more xs v i f count each value k within =
    elim (cases_lt k i) [
      | inl old ↦ get_or_append_left xs (v ∷ []) 0 k (omega (arith, count, old)) ∙ each k old
      | inr last ↦ let here : i ≡ k = omega (arith, within, last) in subst (λ j. get_or (xs ++ v ∷ []) j 0 ≡ f j) here (get_or_push xs v 0 i count ∙ value)
    ]

-- what holds of each place and its value, with one value more
pub holds_more : (P : ℕ → ℕ → Type 0) (xs : List ℕ) (v i : ℕ) → length xs ≡ i → ((k : ℕ) → k < i → P k (get_or xs k 0)) → P i v → (k : ℕ) → k < i + 1 → P k (get_or (xs ++ v ∷ []) k 0)
holds_more P xs v i count each holds k within =
    elim (cases_lt k i) [
      | inl old ↦ subst (λ x. P k x) (sym (get_or_append_left xs (v ∷ []) 0 k (omega (arith, count, old)))) (each k old)
      | inr last ↦
          let here : i ≡ k = omega (arith, within, last) in
          subst (λ j. P j (get_or (xs ++ v ∷ []) j 0)) here (subst (λ x. P i x) (sym (get_or_push xs v 0 i count)) holds)
    ]

-- a place in rows of this width is in one of the rows
pub place_within : (k count width : ℕ) → k < count * width → (0 < width) × (k / width < count)
place_within k count width lt =
    let some : 0 < width = elim (cases_lt 0 width) [ inl some ↦ some | inr none ↦ absurd (omega (arith, lt, mul-le count width count 0 (le_refl count) none)) ] in
    (some, div_below k width count some lt)
