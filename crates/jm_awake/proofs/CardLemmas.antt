-- The letters of a card, bit by bit.
use Rattle.std.proofs.Common.{◌≡◌, ℕ, ◌*◌, ◌%◌, ◌^◌, ◌-◌, ◌<◌, ◌⊎◌, inl, inr, bit_and, sym, ap, ◌∙◌, arith}
use Rattle.std.specs.Int.{w32, bit_at, bit_not, trailing_zeros}
use Rattle.std.proofs.lemmas.Bool.{cases_lt, cases_eq}
use Rattle.std.proofs.lemmas.Nat.{and_le_l}
use Rattle.std.proofs.lemmas.Nat.Bits.{bit_at_and, bit_at_not, bit_at-lt, bit_at_above, bit_at-trailing_zeros, bit_at_clear_same, bit_at_clear_other}

-- of some letters those that aren't among others
pub left_each : (letters own e : ℕ) → letters < 2 ^ 32 → own < 2 ^ 32 → bit_at (bit_and letters (2 ^ 32 - 1 - own)) e ≡ 1 → (bit_at letters e ≡ 1) × (bit_at own e ≡ 0)
left_each letters own e fits small one =
    let both = bit_at_and letters (2 ^ 32 - 1 - own) e in
    let first = bit_at-lt letters e in
    let second = bit_at-lt (2 ^ 32 - 1 - own) e in
    elim (cases_lt e 32) [
      | inl low ↦
          let other = bit_at_not w32 own e small low in
          let third = bit_at-lt own e in
          (omega (arith, both, first, second, one), omega (arith, both, first, second, one, other, third))
      | inr high ↦
          let none = bit_at_above letters 32 e fits high in
          absurd (omega (arith, both, none, one))
    ]

pub left_all : (letters own e : ℕ) → letters < 2 ^ 32 → own < 2 ^ 32 → bit_at letters e ≡ 1 → bit_at (bit_and letters (2 ^ 32 - 1 - own)) e ≡ 0 → bit_at own e ≡ 1
left_all letters own e fits small one zero =
    let both = bit_at_and letters (2 ^ 32 - 1 - own) e in
    elim (cases_lt e 32) [
      | inl low ↦
          let other = bit_at_not w32 own e small low in
          let third = bit_at-lt own e in
          omega (arith, both, one, zero, other, third)
      | inr high ↦
          let none = bit_at_above letters 32 e fits high in
          absurd (omega (arith, none, one))
    ]

-- a letter is below 32
pub letter_below : (letters e : ℕ) → letters < 2 ^ 32 → bit_at letters e ≡ 1 → e < 32
letter_below letters e fits one =
    elim (cases_lt e 32) [
      | inl low ↦ low
      | inr high ↦ let none = bit_at_above letters 32 e fits high in absurd (omega (arith, none, one))
    ]

-- ---- a loop over the letters of a set
pub first_left : (left : ℕ) → 0 < left → left < 2 ^ 32 → (trailing_zeros w32 left < 32) × (bit_at left (trailing_zeros w32 left) ≡ 1)
first_left left some fits =
    let (low, one, before) = bit_at-trailing_zeros w32 left some fits in (low, one)

-- a letter that is left out
pub without_each : (left t e : ℕ) → left < 2 ^ 32 → t < 32 → bit_at (bit_and left (bit_not w32 (1 * 2 ^ t % 2 ^ 32))) e ≡ 1 → (bit_at left e ≡ 1) × (e ≡ t → ⊥)
without_each left t e fits within one =
    let both = bit_at_and left (bit_not w32 (1 * 2 ^ t % 2 ^ 32)) e in
    let first = bit_at-lt left e in
    let second = bit_at-lt (bit_not w32 (1 * 2 ^ t % 2 ^ 32)) e in
    let same : e ≡ t → ⊥ = λ (is : e ≡ t).
    let off = bit_at_clear_same w32 left t within in
    let here = ap (λ (k : ℕ). bit_at (bit_and left (bit_not w32 (1 * 2 ^ t % 2 ^ 32))) k) is in
    omega (arith, off, here, one)
    in
    (omega (arith, both, first, second, one), same)

pub without_all : (left t e : ℕ) → left < 2 ^ 32 → t < 32 → bit_at left e ≡ 1 → (e ≡ t → ⊥) → bit_at (bit_and left (bit_not w32 (1 * 2 ^ t % 2 ^ 32))) e ≡ 1
without_all left t e fits within one other = bit_at_clear_other w32 left t within e (letter_below left e fits one) other ∙ one

-- there is none in 0
pub none_left : (e : ℕ) → bit_at 0 e ≡ 1 → ⊥
none_left e one =
    let zero = bit_at_above 0 0 e (omega arith) (omega arith) in omega (arith, zero, one)

-- a bit of two numbers together is one of the first
pub and_left : (a b e : ℕ) → bit_at (bit_and a b) e ≡ 1 → bit_at a e ≡ 1
and_left a b e one =
    let both = bit_at_and a b e in
    let first = bit_at-lt a e in
    omega (arith, both, first, one)

-- of some letters those that aren't among others, where one is
pub left_one : (letters own e : ℕ) → letters < 2 ^ 32 → own < 2 ^ 32 → bit_at letters e ≡ 1 → (bit_at own e ≡ 1 → ⊥) → bit_at (bit_and letters (2 ^ 32 - 1 - own)) e ≡ 1
left_one letters own e fits small one off =
    let low = letter_below letters e fits one in
    let both = bit_at_and letters (2 ^ 32 - 1 - own) e in
    let other = bit_at_not w32 own e small low in
    let few = bit_at-lt own e in
    elim (cases_eq (bit_at own e) 1) [
      | inl on ↦ absurd (off on)
      | inr not' ↦ omega (arith, both, one, other, few, not')
    ]

pub bit_cases : (n e : ℕ) → (bit_at n e ≡ 1) ⊎ (bit_at n e ≡ 0)
bit_cases n e =
    let few = bit_at-lt n e in
    elim (cases_eq (bit_at n e) 1) [
      | inl one ↦ inl one
      | inr other ↦ inr (omega (arith, few, other))
    ]

-- without one of its bits a number is less
pub fewer_left : (left t : ℕ) → t < 32 → bit_at left t ≡ 1 → bit_and left (bit_not w32 (1 * 2 ^ t % 2 ^ 32)) < left
fewer_left left t within one = elim (cases_lt (bit_and left (bit_not w32 (1 * 2 ^ t % 2 ^ 32))) left) [
  | inl less ↦ less
  | inr more ↦
      let same : bit_and left (bit_not w32 (1 * 2 ^ t % 2 ^ 32)) ≡ left = omega (arith, more, and_le_l left (bit_not w32 (1 * 2 ^ t % 2 ^ 32))) in
      let cleared : bit_at left t ≡ 0 = ap (λ (w : ℕ). bit_at w t) (sym same) ∙ bit_at_clear_same w32 left t within in
      absurd (omega (arith, one, cleared))
]
