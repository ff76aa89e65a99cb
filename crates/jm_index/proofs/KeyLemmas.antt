-- A binding's objects, parameter by parameter, and what its key tells of it.
use Rattle.std.proofs.Common.{◌≡◌, ℕ, zero, suc, ◌+◌, ◌-◌, ◌*◌, ◌/◌, ◌%◌, ◌^◌, ◌<◌, ◌≤◌, inl, inr, List, [], ◌∷◌, Option, Some, None, length, drop, refl, sym, ap, ◌∙◌, arith}
use Rattle.std.specs.Int.{w32, bit_at, trailing_zeros}
use Rattle.std.proofs.lemmas.Bool.{cases_lt}
use Rattle.std.proofs.lemmas.Nat.{shr-shr, shr_le}
use Rattle.std.proofs.lemmas.Nat.Bits.{bit_at_lowest, bit_at-suc, bit_at-zero, bit_at_above, bit_at-trailing_zeros}
use Rattle.jm_model.specs.Bindings.{object_at, objects_of, mask_of}
use Rattle.jm_index.specs.declared.key.Key.TheVariants.{Empty, One, Two, More}
use Rattle.jm_index.specs.Keys.{key_by}

drop_none : (n : ℕ) → drop {A = Option ℕ} n [] ≡ []
drop_none zero = refl
drop_none (suc n) = refl

-- one parameter more
pub objects_from-none : (b : List (Option ℕ)) (p : ℕ) → object_at b p ≡ None → objects_of (drop p b) ≡ objects_of (drop (p + 1) b)
objects_from-none [] zero none = refl
objects_from-none [] (suc p) none = rw (drop_none (suc p), drop_none (suc p + 1)) refl
objects_from-none (None ∷ b) zero none = refl
objects_from-none (Some o ∷ b) zero none = cc
objects_from-none (x ∷ b) (suc p) none =
    let next : suc p + 1 ≡ suc (p + 1) = omega arith in
    rw next (objects_from-none b p none)

pub objects_from-some : (b : List (Option ℕ)) (p o : ℕ) → object_at b p ≡ Some o → objects_of (drop p b) ≡ o ∷ objects_of (drop (p + 1) b)
objects_from-some [] zero o at = cc
objects_from-some [] (suc p) o at = cc
objects_from-some (None ∷ b) zero o at = cc
objects_from-some (Some q ∷ b) zero o at =
    let is : Some q ≡ Some o = at in
    let same : q ≡ o = cc in
    ap (λ (n : ℕ). n ∷ objects_of b) same
objects_from-some (x ∷ b) (suc p) o at =
    let next : suc p + 1 ≡ suc (p + 1) = omega arith in
    rw next (objects_from-some b p o at)

pub objects_from-end : (b : List (Option ℕ)) (p : ℕ) → length b ≤ p → objects_of (drop p b) ≡ []
objects_from-end [] zero h = refl
objects_from-end [] (suc p) h = refl
objects_from-end (x ∷ b) zero h = absurd (omega arith)
objects_from-end (x ∷ b) (suc p) h = objects_from-end b p (omega arith)

-- bit p of the set tells whether parameter p is bound
unbound_bit : (b : List (Option ℕ)) (p : ℕ) → bit_at (mask_of b) p ≡ 0 → object_at b p ≡ None
unbound_bit [] p e = refl
unbound_bit (None ∷ b) zero e = refl
unbound_bit (Some o ∷ b) zero e = absurd (omega (arith, bit_at_lowest (1 + 2 * mask_of b), e))
unbound_bit (None ∷ b) (suc p) e =
    let half : 2 * mask_of b / 2 ≡ mask_of b = omega arith in
    unbound_bit b p (rw half at (sym (bit_at-suc (2 * mask_of b) p) ∙ e))
unbound_bit (Some o ∷ b) (suc p) e =
    let half : (1 + 2 * mask_of b) / 2 ≡ mask_of b = omega arith in
    unbound_bit b p (rw half at (sym (bit_at-suc (1 + 2 * mask_of b) p) ∙ e))

bound_bit : (b : List (Option ℕ)) (p : ℕ) → bit_at (mask_of b) p ≡ 1 → object_at b p ≡ None → ⊥
bound_bit [] p e none = omega (arith, bit_at-zero p, e)
bound_bit (None ∷ b) zero e none = omega (arith, bit_at_lowest (2 * mask_of b), e)
bound_bit (Some o ∷ b) zero e none = cc
bound_bit (None ∷ b) (suc p) e none =
    let half : 2 * mask_of b / 2 ≡ mask_of b = omega arith in
    bound_bit b p (rw half at (sym (bit_at-suc (2 * mask_of b) p) ∙ e)) none
bound_bit (Some o ∷ b) (suc p) e none =
    let half : (1 + 2 * mask_of b) / 2 ≡ mask_of b = omega arith in
    bound_bit b p (rw half at (sym (bit_at-suc (1 + 2 * mask_of b) p) ∙ e)) none

rest_bit : (b : List (Option ℕ)) (from i p : ℕ) → from + i ≡ p → bit_at (mask_of b / 2 ^ from) i ≡ bit_at (mask_of b) p
rest_bit b from i p e = ap (λ (n : ℕ). n % 2) (shr-shr (mask_of b) from i) ∙ ap (λ (q : ℕ). bit_at (mask_of b) q) e

-- where no bit is set from a parameter on, none is bound ..
pub none_from : (b : List (Option ℕ)) (from mask : ℕ) → mask ≡ mask_of b → mask / 2 ^ from ≡ 0 → (p : ℕ) → from ≤ p → object_at b p ≡ None
none_from b from mask is none p low =
    let bit : bit_at (mask_of b / 2 ^ from) (p - from) ≡ 0 = rw (← is, none) (bit_at-zero (p - from)) in
    unbound_bit b p (sym (rest_bit b from (p - from) p (omega arith)) ∙ bit)

-- .. and else the first is that of the lowest bit
pub record IsFirst (b : List (Option ℕ)) (from p : ℕ) : Type 0 where
  pub bound : object_at b p ≡ None → ⊥
  pub within : p < 8
  pub between : (q : ℕ) → from ≤ q → q < p → object_at b q ≡ None

first_set : (b : List (Option ℕ)) (from : ℕ) → mask_of b < 256 → (mask_of b / 2 ^ from ≡ 0 → ⊥) → IsFirst b from (from + trailing_zeros w32 (mask_of b / 2 ^ from))
first_set b from fits some =
    let n = trailing_zeros w32 (mask_of b / 2 ^ from) in
    let small : mask_of b / 2 ^ from < 2 ^ 32 = omega (arith, shr_le (mask_of b) from, fits) in
    let lowest = bit_at-trailing_zeros w32 (mask_of b / 2 ^ from) (omega (arith, some)) small in
    let bit : bit_at (mask_of b) (from + n) ≡ 1 = sym (rest_bit b from n (from + n) refl) ∙ lowest.1 in
    record {
      bound = bound_bit b (from + n) bit;
      within = elim (cases_lt (from + n) 8) [ inl h ↦ h | inr h ↦ absurd (omega (arith, bit, bit_at_above (mask_of b) 8 (from + n) fits h)) ];
      between = λ q low high. unbound_bit b q (sym (rest_bit b from (q - from) q (omega (arith, low))) ∙ lowest.2 (q - from) (omega (arith, low, high)));
    }

pub first_from : (b : List (Option ℕ)) (from mask : ℕ) → mask ≡ mask_of b → mask < 256 → (mask / 2 ^ from ≡ 0 → ⊥) → IsFirst b from (from + trailing_zeros w32 (mask / 2 ^ from))
first_from b from mask is fits some =
    rw is (first_set b from (omega (arith, is, fits)) (λ none. some (rw is none)))

-- what is passed over binds nothing
skipped : (b : List (Option ℕ)) (from n : ℕ) → ((q : ℕ) → from ≤ q → q < from + n → object_at b q ≡ None) → objects_of (drop from b) ≡ objects_of (drop (from + n) b)
skipped b from zero none =
    let e : from ≡ from + 0 = omega arith in
    ap (λ (m : ℕ). objects_of (drop m b)) e
skipped b from (suc n) none =
    let e : from + 1 + n ≡ from + suc n = omega arith in
    objects_from-none b from (none from (omega arith) (omega arith)) ∙ skipped b (from + 1) n (λ q low high. none q (omega (arith, low)) (omega (arith, high)))
    ∙ ap (λ (m : ℕ). objects_of (drop m b)) e

pub objects_first : (b : List (Option ℕ)) (from p o : ℕ) → from ≤ p → object_at b p ≡ Some o → ((q : ℕ) → from ≤ q → q < p → object_at b q ≡ None) → objects_of (drop from b) ≡ o ∷ objects_of (drop (p + 1) b)
objects_first b from p o low at between =
    let e : from + (p - from) ≡ p = omega arith in
    skipped b from (p - from) (λ q above below. between q above (omega (arith, low, below))) ∙ ap (λ (m : ℕ). objects_of (drop m b)) e ∙ objects_from-some b p o at

pub objects_rest : (b : List (Option ℕ)) (from : ℕ) → ((q : ℕ) → from ≤ q → object_at b q ≡ None) → objects_of (drop from b) ≡ []
objects_rest b from none = skipped b from (length b) (λ q above below. none q above) ∙ objects_from-end b (from + length b) (omega arith)

-- keys by the number of objects
pub key-none : (mask : ℕ) (os : List ℕ) → os ≡ [] → Empty ≡ key_by mask os
key-none mask os none = rw none refl

pub key-one : (mask o : ℕ) (os rest : List ℕ) → os ≡ o ∷ rest → rest ≡ [] → One mask o ≡ key_by mask os
key-one mask o os rest is none = rw (is, none) refl

pub key-two : (mask o q : ℕ) (os mid rest : List ℕ) → os ≡ o ∷ mid → mid ≡ q ∷ rest → rest ≡ [] → Two (record { mask = mask; first = o; second = q }) ≡ key_by mask os
key-two mask o q os mid rest is then none = rw (is, then, none) refl

pub key-more : (mask o q r : ℕ) (os mid rest last : List ℕ) → os ≡ o ∷ mid → mid ≡ q ∷ rest → rest ≡ r ∷ last → More ≡ key_by mask os
key-more mask o q r os mid rest last is then more = rw (is, then, more) refl
