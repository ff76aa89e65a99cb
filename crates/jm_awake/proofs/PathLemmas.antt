-- The path of a binding within a set of parameters.
use Rattle.std.proofs.Common.{◌≡◌, ℕ, zero, suc, ◌+◌, ◌*◌, ◌/◌, ◌%◌, ◌^◌, ◌<◌, true, [], ◌∷◌, Some, None, cond, bit_and, refl, sym, ap, ◌∙◌, arith}
use Rattle.std.specs.Prelude.{◌==◌}
use Rattle.std.specs.Int.{w8, bit_at, trailing_zeros}
use Rattle.std.proofs.lemmas.Bool.{eqb-true, and_parts, false≢true}
use Rattle.std.proofs.lemmas.Nat.Bits.{bit_at_lowest, bit_at-suc, bit_at-zero, bit_at_and, bit_at-lt, bit_at-trailing_zeros}
use Rattle.jm_model.specs.Bindings.{object_at, mask_of, is_below}
use Rattle.jm_model.specs.declared.binding.Binding.{Binding}
use Rattle.jm_awake.specs.Awake.{path_in, path_of}

-- ---- bit p of the mask tells whether parameter p is bound
pub bound_one : (b : Binding) (p o : ℕ) → object_at b p ≡ Some o → bit_at (mask_of b) p ≡ 1
bound_one [] zero o at = cc
bound_one [] (suc p) o at = cc
bound_one (None ∷ b) zero o at = cc
bound_one (Some q ∷ b) zero o at = let lowest = bit_at_lowest (1 + 2 * mask_of b) in omega (arith, lowest)
bound_one (None ∷ b) (suc p) o at =
    let half : 2 * mask_of b / 2 ≡ mask_of b = omega arith in
    bit_at-suc (2 * mask_of b) p ∙ ap (λ (n : ℕ). bit_at n p) half ∙ bound_one b p o at
bound_one (Some q ∷ b) (suc p) o at =
    let half : (1 + 2 * mask_of b) / 2 ≡ mask_of b = omega arith in
    bit_at-suc (1 + 2 * mask_of b) p ∙ ap (λ (n : ℕ). bit_at n p) half ∙ bound_one b p o at

pub unbound_zero : (b : Binding) (p : ℕ) → object_at b p ≡ None → bit_at (mask_of b) p ≡ 1 → ⊥
unbound_zero [] p none e = let zero = bit_at-zero p in omega (arith, zero, e)
unbound_zero (None ∷ b) zero none e = let lowest = bit_at_lowest (2 * mask_of b) in omega (arith, lowest, e)
unbound_zero (Some o ∷ b) zero none e = cc
unbound_zero (None ∷ b) (suc p) none e =
    let half : 2 * mask_of b / 2 ≡ mask_of b = omega arith in
    unbound_zero b p none (sym (ap (λ (n : ℕ). bit_at n p) half) ∙ sym (bit_at-suc (2 * mask_of b) p) ∙ e)
unbound_zero (Some o ∷ b) (suc p) none e =
    let half : (1 + 2 * mask_of b) / 2 ≡ mask_of b = omega arith in
    unbound_zero b p none (sym (ap (λ (n : ℕ). bit_at n p) half) ∙ sym (bit_at-suc (1 + 2 * mask_of b) p) ∙ e)

-- ---- the path by its parameter
even_bit : (mask : ℕ) → bit_at mask 0 ≡ 0 → mask % 2 ≡ 0
even_bit mask off = sym (bit_at_lowest mask) ∙ off

no_bit : (mask : ℕ) → mask % 2 ≡ 0 → (mask % 2 == 1) ≡ true → ⊥
no_bit mask even is = let one = eqb-true (mask % 2) 1 is in omega (arith, one, even)

skip : (mask o r : ℕ) → mask % 2 ≡ 0 → cond (mask % 2 == 1) (o + 1) r ≡ r
skip mask o r even = ap (λ (n : ℕ). cond (n == 1) (o + 1) r) even

take_it : (mask o r : ℕ) → mask % 2 ≡ 1 → cond (mask % 2 == 1) (o + 1) r ≡ o + 1
take_it mask o r odd = ap (λ (n : ℕ). cond (n == 1) (o + 1) r) odd

pub path_none : (b : Binding) (mask : ℕ) → ((q o : ℕ) → object_at b q ≡ Some o → bit_at mask q ≡ 0) → path_in b mask ≡ 0
path_none [] mask none = refl
path_none (None ∷ b) mask none = path_none b (mask / 2) (λ q o at. sym (bit_at-suc mask q) ∙ none (suc q) o at)
path_none (Some x ∷ b) mask none =
    skip mask x (path_in b (mask / 2)) (even_bit mask (none zero x refl))
    ∙ path_none b (mask / 2) (λ q o at. sym (bit_at-suc mask q) ∙ none (suc q) o at)

pub path_at : (b : Binding) (mask p o : ℕ) → object_at b p ≡ Some o → bit_at mask p ≡ 1 → ((q x : ℕ) → q < p → object_at b q ≡ Some x → bit_at mask q ≡ 0) → path_in b mask ≡ o + 1
path_at [] mask zero o at one before = cc
path_at [] mask (suc p) o at one before = cc
path_at (None ∷ b) mask zero o at one before = cc
path_at (Some x ∷ b) mask zero o at one before =
    let is : Some x ≡ Some o = at in
    let same : x ≡ o = cc in
    take_it mask x (path_in b (mask / 2)) (sym (bit_at_lowest mask) ∙ one) ∙ ap (λ (n : ℕ). n + 1) same
path_at (None ∷ b) mask (suc p) o at one before =
    path_at b (mask / 2) p o at (sym (bit_at-suc mask p) ∙ one) (λ q x low there. sym (bit_at-suc mask q) ∙ before (suc q) x (omega (arith, low)) there)
path_at (Some y ∷ b) mask (suc p) o at one before =
    skip mask y (path_in b (mask / 2)) (even_bit mask (before zero y (omega arith) refl))
    ∙ path_at b (mask / 2) p o at (sym (bit_at-suc mask p) ∙ one) (λ q x low there. sym (bit_at-suc mask q) ∙ before (suc q) x (omega (arith, low)) there)

-- ---- by the bits of both masks
pub within_none : (b : Binding) (own mask : ℕ) → own ≡ mask_of b → bit_and own mask ≡ 0 → 0 ≡ path_in b mask
within_none b own mask is none = sym (path_none b mask (λ q o at.
    let one = bound_one b q o at in
    let both = bit_at_and own mask q in
    let no = ap (λ (n : ℕ). bit_at n q) none in
    let nil = bit_at-zero q in
    let here = ap (λ (n : ℕ). bit_at n q) is in
    let small = bit_at-lt mask q in
    omega (arith, one, both, no, nil, here, small)))

pub within_some : (b : Binding) (own mask o : ℕ) → own ≡ mask_of b → own < 2 ^ 8 → (bit_and own mask ≡ 0 → ⊥) → bit_and own mask < 2 ^ 8 → object_at b (trailing_zeros w8 (bit_and own mask)) ≡ Some o → o + 1 ≡ path_in b mask
within_some b own mask o is fits some low at =
    let (small, one, before) = bit_at-trailing_zeros w8 (bit_and own mask) (omega (arith, some)) low in
    let both = bit_at_and own mask (trailing_zeros w8 (bit_and own mask)) in
    let first = bit_at-lt own (trailing_zeros w8 (bit_and own mask)) in
    let second = bit_at-lt mask (trailing_zeros w8 (bit_and own mask)) in
    sym (path_at b mask (trailing_zeros w8 (bit_and own mask)) o at (omega (arith, both, one, first, second)) (λ q x less there.
    let zero = before q less in
    let each = bit_at_and own mask q in
    let bound = bound_one b q x there in
    let here = ap (λ (n : ℕ). bit_at n q) is in
    let third = bit_at-lt mask q in
    omega (arith, zero, each, bound, here, third)))

pub within_never : (b : Binding) (own mask : ℕ) → own ≡ mask_of b → (bit_and own mask ≡ 0 → ⊥) → bit_and own mask < 2 ^ 8 → object_at b (trailing_zeros w8 (bit_and own mask)) ≡ None → ⊥
within_never b own mask is some low none =
    let (small, one, before) = bit_at-trailing_zeros w8 (bit_and own mask) (omega (arith, some)) low in
    let both = bit_at_and own mask (trailing_zeros w8 (bit_and own mask)) in
    let first = bit_at-lt own (trailing_zeros w8 (bit_and own mask)) in
    let second = bit_at-lt mask (trailing_zeros w8 (bit_and own mask)) in
    let here = ap (λ (n : ℕ). bit_at n (trailing_zeros w8 (bit_and own mask))) is in
    unbound_zero b (trailing_zeros w8 (bit_and own mask)) none (omega (arith, both, one, first, second, here))

-- ---- a binding below an instance has the path of the instance within its parameters
pub path_below : (b t : Binding) → is_below b t ≡ true → path_in t (mask_of b) ≡ path_of b
path_below [] [] below = refl
path_below [] (y ∷ t) below = absurd (false≢true below)
path_below (x ∷ b) [] below = absurd (false≢true below)
path_below (None ∷ b) (None ∷ t) below =
    let half : 2 * mask_of b / 2 ≡ mask_of b = omega arith in
    ap (path_in t) half ∙ path_below b t below ∙ sym (ap (path_in b) half)
path_below (None ∷ b) (Some y ∷ t) below =
    let half : 2 * mask_of b / 2 ≡ mask_of b = omega arith in
    skip (2 * mask_of b) y (path_in t (2 * mask_of b / 2)) (omega arith) ∙ ap (path_in t) half ∙ path_below b t below ∙ sym (ap (path_in b) half)
path_below (Some x ∷ b) (None ∷ t) below = absurd (false≢true below)
path_below (Some x ∷ b) (Some y ∷ t) below =
    let same : x ≡ y = eqb-true x y (and_parts (x == y) (is_below b t) below).0 in
    take_it (1 + 2 * mask_of b) y (path_in t ((1 + 2 * mask_of b) / 2)) (omega arith)
    ∙ sym (take_it (1 + 2 * mask_of b) x (path_in b ((1 + 2 * mask_of b) / 2)) (omega arith) ∙ ap (λ (n : ℕ). n + 1) same)
