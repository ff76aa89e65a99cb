-- What is worked out for states and first letters: masks of letters, and lists of these.
use Rattle.std.proofs.Common.{ℕ, zero, suc, ◌≡◌, ◌<◌, ◌+◌, ◌*◌, ◌%◌, ◌^◌, ◌⊎◌, inl, inr, Bool, true, false, not, List, [], ◌∷◌, ◌++◌, Some, length, bit_or, refl, sym, ◌∙◌, ap, subst, arith}
use Rattle.std.specs.Prelude.{IsTrue, IsBitSet, map, slice_get, slice_index, slice_index_or}
use Rattle.std.specs.Int.{w32}
use Rattle.std.proofs.lemmas.Bool.{false≢true}
use Rattle.std.proofs.lemmas.List.{length-append}
use Rattle.std.proofs.lemmas.Bool.Decides.{eqb_tells}
use Rattle.std.proofs.lemmas.Nat.Bits.{and_pow, bit_at_set_other, bit_at-zero}
use Rattle.jm_machine.proofs.OptionLemmas.{same_some}

-- no bit of 0 is set
pub no_bit_of_zero : (k : ℕ) → IsBitSet 0 k → ⊥
no_bit_of_zero k set = set (and_pow 0 k ∙ ap (λ b. b * 2 ^ k) (bit_at-zero k) ∙ omega arith)

-- what holds of each letter whose bit is set still does with one bit more
pub bits_more : (P : ℕ → Type 0) (n i : ℕ) → i < 32 → P i → ((k : ℕ) → IsBitSet n k → P k) → (k : ℕ) → IsBitSet (bit_or n (1 * 2 ^ i % 2 ^ 32)) k → P k
bits_more P n i few here each k set =
    elim (eqb_tells k i) [
      | inl same ↦ subst P (sym same.1) here
      | inr other ↦ each k (λ none. set (rw (and_pow (bit_or n (1 * 2 ^ i % 2 ^ 32)) k, bit_at_set_other w32 n i few k other.1) (sym (and_pow n k) ∙ none)))
    ]

pub not_both : (b : Bool) (P : Type 0) → IsTrue (not b) → (P → b ≡ true) → P → ⊥
not_both true P off says p = false≢true off
not_both false P off says p = false≢true (says p)

pub count_push : {X : Type 0} (xs : List X) (x : X) (n : ℕ) → length xs ≡ n → length (xs ++ x ∷ []) ≡ n + 1
count_push xs x n count = omega (arith, length-append xs (x ∷ []), count)

-- one number more at the end of a list
pub pushed_index : (xs : List ℕ) (x s : ℕ) → (slice_index (xs ++ x ∷ []) s ≡ slice_index xs s) ⊎ ((s ≡ length xs) × (slice_index (xs ++ x ∷ []) s ≡ x))
pushed_index [] x zero = inr (refl, refl)
pushed_index [] x (suc s) = inl refl
pushed_index (y ∷ ys) x zero = inl refl
pushed_index (y ∷ ys) x (suc s) = elim (pushed_index ys x s) [ inl e ↦ inl e | inr h ↦ inr (omega (arith, h.0), h.1) ]

-- a list of masks, each with a bit only where this holds
pub bits_push : (P : ℕ → ℕ → Type 0) (xs : List ℕ) (x state : ℕ) → length xs ≡ state → ((s e : ℕ) → IsBitSet (slice_index xs s) e → P s e) → ((e : ℕ) → IsBitSet x e → P state e)
    → (s e : ℕ) → IsBitSet (slice_index (xs ++ x ∷ []) s) e → P s e
bits_push P xs x state count each here s e set =
    elim (pushed_index xs x s) [
      | inl same ↦ each s e (subst (λ (n : ℕ). IsBitSet n e) same set)
      | inr last ↦ subst (λ (n : ℕ). P n e) (sym (last.0 ∙ count)) (here e (subst (λ (n : ℕ). IsBitSet n e) last.1 set))
    ]

-- a list of numbers, of each of which this holds
pub each_push : (P : ℕ → ℕ → Type 0) (xs : List ℕ) (x state : ℕ) → length xs ≡ state → ((s : ℕ) → s < length xs → P s (slice_index xs s)) → P state x
    → (s : ℕ) → s < length (xs ++ x ∷ []) → P s (slice_index (xs ++ x ∷ []) s)
each_push P [] x state count each here zero less = subst (λ (n : ℕ). P n x) (sym count) here
each_push P [] x state count each here (suc s) less = absurd (omega (arith, less))
each_push P (y ∷ ys) x state count each here zero less = each zero (omega arith)
each_push P (y ∷ ys) x zero count each here (suc s) less = absurd (omega (arith, count))
each_push P (y ∷ ys) x (suc state) count each here (suc s) less =
    each_push (λ n v. P (suc n) v) ys x state (omega (arith, count)) (λ n l. each (suc n) (omega (arith, l))) here s (omega (arith, less))

-- one value more at the end of a list
pub get_push : {X : Type 0} (P : ℕ → X → Type 0) (xs : List X) (x : X) (place : ℕ) → length xs ≡ place → ((e : ℕ) (y : X) → slice_get xs e ≡ Some y → P e y) → P place x
    → (e : ℕ) (y : X) → slice_get (xs ++ x ∷ []) e ≡ Some y → P e y
get_push P [] x place count each here zero y at = subst (λ (n : ℕ). P n y) (sym count) (subst (P place) (same_some at) here)
get_push P [] x place count each here (suc e) y at = absurd cc
get_push P (z ∷ zs) x place count each here zero y at = each zero y at
get_push P (z ∷ zs) x zero count each here (suc e) y at = absurd (omega (arith, count))
get_push P (z ∷ zs) x (suc place) count each here (suc e) y at =
    get_push (λ n v. P (suc n) v) zs x place (omega (arith, count)) (λ n v. each (suc n) v) here e y at

-- one row more at the end of rows
pub rows_push : {X : Type 0} (items : X → List ℕ) (P : ℕ → List ℕ → Type 0) (xs : List X) (x : X) (place : ℕ)
    → length xs ≡ place → ((e : ℕ) → P e []) → ((e : ℕ) → P e (slice_index_or (map items xs) e [])) → P place (items x)
    → (e : ℕ) → P e (slice_index_or (map items (xs ++ x ∷ [])) e [])
rows_push items P [] x place count none each here zero = subst (λ (n : ℕ). P n (items x)) (sym count) here
rows_push items P [] x place count none each here (suc e) = none (suc e)
rows_push items P (y ∷ ys) x place count none each here zero = each zero
rows_push items P (y ∷ ys) x zero count none each here (suc e) = absurd (omega (arith, count))
rows_push items P (y ∷ ys) x (suc place) count none each here (suc e) =
    rows_push items (λ n row. P (suc n) row) ys x place (omega (arith, count)) (λ n. none (suc n)) (λ n. each (suc n)) here e

-- the mask at a place
pub mask_at : (xs : List ℕ) (k mask : ℕ) → slice_get xs k ≡ Some mask → mask ≡ slice_index xs k
mask_at [] k mask at = absurd cc
mask_at (x ∷ xs) zero mask at = sym (same_some at)
mask_at (x ∷ xs) (suc k) mask at = mask_at xs k mask at
