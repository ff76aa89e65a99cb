-- The handlers that are hit are those of all properties, a property at a time.
use Rattle.std.proofs.Common.{◌≡◌, ◌⊎◌, inl, inr, ℕ, ◌+◌, ◌<◌, max, List, Some, length, slice_get, bit_or, sym, ◌∙◌, subst, arith}
use Rattle.std.specs.Prelude.{◌↔◌, IsBitSet}
use Rattle.std.specs.Int.{bit_at}
use Rattle.std.proofs.lemmas.Bool.{cases_lt}
use Rattle.std.proofs.lemmas.Nat.{bit_set_by_shift}
use Rattle.std.proofs.lemmas.Nat.Bits.{shr_and_one, bit_at_or, bit_at-lt, bit_at-zero}
use Rattle.std.proofs.lemmas.Option.{same_Some, slice_get_within}
use Rattle.jm_model.specs.Meanings.{Meaning, IsHit}
use Rattle.jm_machine.specs.PropertyMeanings.{property_meaning}
use Rattle.jm_machine.specs.Meanings.{PropertyDefinition, RuleDefinition, rules_about, first_of, rules_meaning}
use Rattle.jm_machine.proofs.ProductLemmas.{hit_of, hit_by}

-- a bit is set where it is 1
pub set_is_one : (n k : ℕ) → IsBitSet n k ↔ (bit_at n k ≡ 1)
set_is_one n k =
    let by = bit_set_by_shift n k in
    let same = shr_and_one n k in
    (λ set. sym same ∙ by.1 set, λ one. by.0 (same ∙ one))

-- of two masks together a bit is set where it is of one of them
pub or_set : (a b k : ℕ) → IsBitSet (bit_or a b) k ↔ (IsBitSet a k ⊎ IsBitSet b k)
or_set a b k = (
  λ set.
      let one : max (bit_at a k) (bit_at b k) ≡ 1 = sym (bit_at_or a b k) ∙ (set_is_one (bit_or a b) k).0 set in
      let small = bit_at-lt a k in
      elim (cases_lt 0 (bit_at a k)) [
        | inl first ↦ inl ((set_is_one a k).1 (omega (arith, first, small)))
        | inr none ↦ inr ((set_is_one b k).1 (omega (arith, one, none)))
      ],
  λ h. (set_is_one (bit_or a b) k).1 (bit_at_or a b k ∙ elim h [
    | inl set ↦ let one = (set_is_one a k).0 set in let small = bit_at-lt b k in omega (arith, one, small)
    | inr set ↦ let one = (set_is_one b k).0 set in let small = bit_at-lt a k in omega (arith, one, small)
  ]),
)

module _ (r : RuleDefinition) (w : List ℕ) where
  abbrev part : PropertyDefinition → Meaning
  part p = property_meaning (rules_about r p)

  -- handler k is handler i of property j, by which it is hit
  pub record IsHitIn (j k : ℕ) : Type 0 where
    pub property : PropertyDefinition
    pub handler : ℕ
    pub there : slice_get r.properties j ≡ Some property
    pub number : k ≡ first_of r.properties j + handler
    pub hit : IsHit (part property) w handler

  -- a mask has the handlers of the first so many properties that are hit
  abbrev pub HasHitsOf : ℕ → ℕ → Type 0
  HasHitsOf n bits = (k : ℕ) → IsBitSet bits k ↔ ((j : ℕ) × (j < n) × IsHitIn j k)

  pub no_hits : HasHitsOf 0 0
  no_hits k = (
    λ set. absurd (no_one (sym (bit_at-zero k) ∙ (set_is_one 0 k).0 set)),
    λ h. absurd (omega (arith, h.1)),
  )
    where
      no_one : ◌≡◌ {A = ℕ} 0 1 → ⊥
      no_one e = omega (arith, e)

  -- with those of one property more, whose mask has the bits that its handlers have in the whole
  pub more_hits : (n bits own : ℕ) (p : PropertyDefinition) → slice_get r.properties n ≡ Some p → HasHitsOf n bits
      → ((k : ℕ) → IsBitSet own k ↔ ((i : ℕ) × (k ≡ first_of r.properties n + i) × IsHit (part p) w i)) → HasHitsOf (n + 1) (bit_or bits own)
  more_hits n bits own p at before here k = (
    λ set. elim ((or_set bits own k).0 set) [
      | inl old ↦ let h = (before k).0 old in (h.0, omega (arith, h.1), h.2)
      | inr new ↦ let h = (here k).0 new in (n, omega arith, record { property = p; handler = h.0; there = at; number = h.1; hit = h.2 })
    ],
    λ h. (or_set bits own k).1 (elim (cases_lt h.0 n) [
      | inl less ↦ inl ((before k).1 (h.0, less, h.2))
      | inr past ↦
          let last : h.0 ≡ n = omega (arith, h.1, past) in
          let mine : IsHitIn n k = subst (λ (j : ℕ). IsHitIn j k) last h.2 in
          let same : mine.property ≡ p = same_Some mine.property p (sym mine.there ∙ at) in
          inr ((here k).1 (mine.handler, mine.number, subst (λ (q : PropertyDefinition). IsHit (part q) w mine.handler) same mine.hit))
    ]),
  )

  -- of all properties they are those that the whole says are hit
  pub all_hits : (bits : ℕ) → HasHitsOf (length r.properties) bits → (k : ℕ) → IsBitSet bits k ↔ IsHit (rules_meaning r) w k
  all_hits bits all k = (
    λ set.
        let h = ((all k).0 set).2 in
        subst (IsHit (rules_meaning r) w) (sym h.number)
        ((hit_of r ((all k).0 set).0 h.property h.there w h.handler h.hit.2).1 h.hit),
    λ hit.
        let by = hit_by r w k hit in
        (all k).1 (by.0, slice_get_within r.properties by.0 by.1 by.3, record { property = by.1; handler = by.2; there = by.3; number = by.4; hit = by.5 }),
  )
