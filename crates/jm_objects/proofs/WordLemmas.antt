-- The bits of a word that are gone through from the lowest on.
use Rattle.std.proofs.Common.{◌≡◌, ℕ, ◌*◌, ◌%◌, ◌^◌, ◌<◌, ◌⊎◌, inl, inr, ap, sym, ◌∙◌, arith}
use Rattle.std.specs.Prelude.{bit_and}
use Rattle.std.specs.Int.{w64, bit_at, bit_not, trailing_zeros}
use Rattle.std.proofs.lemmas.Bool.{cases_eq, cases_lt}
use Rattle.std.proofs.lemmas.Nat.{and_le_l}
use Rattle.std.proofs.lemmas.Nat.Bits.{bit_at_clear_same, bit_at_clear_other, bit_at-trailing_zeros}

-- the lowest bit is one of the word
pub first_left : (left : ℕ) → 0 < left → left < 2 ^ 64 → (trailing_zeros w64 left < 64) × (bit_at left (trailing_zeros w64 left) ≡ 1)
first_left left some fits =
    let (low, one, before) = bit_at-trailing_zeros w64 left some fits in (low, one)

-- without one of its bits a word is less
pub fewer_left : (left t : ℕ) → t < 64 → bit_at left t ≡ 1 → bit_and left (bit_not w64 (1 * 2 ^ t % 2 ^ 64)) < left
fewer_left left t within one = elim (cases_lt (bit_and left (bit_not w64 (1 * 2 ^ t % 2 ^ 64))) left) [
  | inl less ↦ less
  | inr more ↦
      let same : bit_and left (bit_not w64 (1 * 2 ^ t % 2 ^ 64)) ≡ left = omega (arith, more, and_le_l left (bit_not w64 (1 * 2 ^ t % 2 ^ 64))) in
      let cleared : bit_at left t ≡ 0 = ap (λ (w : ℕ). bit_at w t) (sym same) ∙ bit_at_clear_same w64 left t within in
      absurd (omega (arith, one, cleared))
]

-- a bit that is unset then was so before, or is that one
pub unset_left : (left t k : ℕ) → t < 64 → k < 64 → bit_at (bit_and left (bit_not w64 (1 * 2 ^ t % 2 ^ 64))) k ≡ 0 → (bit_at left k ≡ 0) ⊎ (k ≡ t)
unset_left left t k within low unset = elim (cases_eq k t) [
  | inl same ↦ inr same
  | inr other ↦ inl (sym (bit_at_clear_other w64 left t within k low other) ∙ unset)
]
