-- Bits of a vector.
use Rattle.std.proofs.Common.{ℕ, ◌≡◌, ◌≢◌, ◌<◌, ◌/◌, ◌^◌, Decides, Bool, true, false, bit_and, refl, sym, ◌∙◌, arith}
use Rattle.std.specs.Int.{bit_at, w64}
use Rattle.std.specs.Prelude.{IsBitSet}
use Rattle.std.proofs.lemmas.Bool.{eqb-true}
use Rattle.std.proofs.lemmas.Bool.Decides.{nat_tests}
use Rattle.std.proofs.lemmas.Nat.Bits.{bit_at_set_same, bit_at_set_other, bit_at-zero, bit_at-lt, shr_and_one, same_from_bits}
use Rattle.std.proofs.lemmas.Nat.{bit_set_by_shift}
use Rattle.jm_ptltl.specs.Vectors.{has_bit, with_bit}

pub same_bit : (vector place : ℕ) (b : Bool) → place < 64 → has_bit vector place ≡ false → has_bit (with_bit vector place b) place ≡ b
unfolding with_bit
same_bit vector place true lt none = rw (bit_at_set_same w64 vector place lt) refl
same_bit vector place false lt none = none

pub other_bit : (vector place : ℕ) (b : Bool) (k : ℕ) → place < 64 → k ≢ place → has_bit (with_bit vector place b) k ≡ has_bit vector k
unfolding with_bit
other_bit vector place true k lt other = rw (bit_at_set_other w64 vector place lt k other) refl
other_bit vector place false k lt other = refl

pub no_bit : (k : ℕ) → has_bit 0 k ≡ false
no_bit k = rw (bit_at-zero k) refl

-- vectors of the same bits are one
pub same_vector : (a b : ℕ) → ((k : ℕ) → has_bit a k ≡ has_bit b k) → a ≡ b
same_vector a b same = same_from_bits a b (λ k.
    let e = same k in
    let la = bit_at-lt a k in
    let lb = bit_at-lt b k in
    grind (arith, nat_tests))

-- the test of a bit, and that it is set
pub bit_decides : (v k : ℕ) → Decides (has_bit v k) (IsBitSet v k)
bit_decides v k =
    let is = bit_set_by_shift v k in
    let at : bit_and (v / 2 ^ k) 1 ≡ bit_at v k = shr_and_one v k in
    (λ h. is.0 (at ∙ eqb-true _ _ h), λ h. let one : bit_at v k ≡ 1 = sym at ∙ is.1 h in rw one refl)
