-- How a binding lies in memory: a mask, whose bit p says whether parameter p is bound, and an object for each
-- parameter, which is 0 where the parameter isn't bound.
use Rattle.std.specs.Prelude.{◌≡◌, ℕ, ◌+◌, ◌*◌, ◌/◌, ◌%◌, ◌^◌, ◌<◌, ◌==◌, ◌&&◌, Bool, nat_eq, true, false, cond, List, [], ◌∷◌, length, map, Option, Some, None, unwrap_or, refl}
use Rattle.std.specs.Cmp.Lexicographic.{pointwise}
use Rattle.std.proofs.Common.{pow-suc, sym, subst, arith}
use Rattle.std.proofs.lemmas.Bool.{eqb-true, eq-eqb}
use Rattle.jm_model.specs.Words.{Mask}

-- the optional objects that a mask and a list of objects stand for
abbrev pub options_of : Mask → List ℕ → List (Option ℕ)
options_of mask [] = []
options_of mask (o ∷ os) = cond (mask % 2 == 1) (Some o) None ∷ options_of (mask / 2) os

-- the mask of a list of optional objects
abbrev pub mask_bits : List (Option ℕ) → Mask
mask_bits [] = 0
mask_bits (None ∷ b) = 2 * mask_bits b
mask_bits (Some o ∷ b) = 1 + 2 * mask_bits b

-- the objects as they lie in memory
abbrev pub stored_of : List (Option ℕ) → List ℕ
stored_of b = map (λ x. unwrap_or x 0) b

-- what `==` says of two bindings
abbrev pub binding_eq : List (Option ℕ) → List (Option ℕ) → Bool
binding_eq a b = nat_eq (mask_bits a) (mask_bits b) && pointwise nat_eq (stored_of a) (stored_of b)

-- a mask of at most as many bits as there are objects, and 0 for each parameter that isn't bound
pub record IsStored (mask : Mask) (os : List ℕ) : Type 0 where
  pub eight : length os ≡ 8
  pub mask_fits : mask < 256
  pub unbound : stored_of (options_of mask os) ≡ os

-- what holds in both cases of the test of a mask's lowest bit holds of the test
pub by_lowest_bit : (mask : ℕ) (P : Bool → Type 0) → (mask % 2 ≡ 1 → P true) → (mask % 2 ≡ 0 → P false)
    → P (mask % 2 == 1)
by_lowest_bit mask P one zero = go (mask % 2 == 1) refl
  where
    go : (b : Bool) → (mask % 2 == 1) ≡ b → P (mask % 2 == 1)
    go true e = subst P (sym e) (one (eqb-true (mask % 2) 1 e))
    go false e = subst P (sym e) (zero (grind (arith, eq-eqb)))

-- the mask of what a mask and objects stand for
pub mask_bits-options_of : (mask : ℕ) (os : List ℕ) → mask < 2 ^ length os → mask_bits (options_of mask os) ≡ mask
mask_bits-options_of mask [] h = omega arith
mask_bits-options_of mask (o ∷ os) h =
    let wide : mask < 2 ^ length os * 2 = rw (← pow-suc 2 (length os)) h in
    let rest : mask / 2 < 2 ^ length os = omega arith in
    let ih = mask_bits-options_of (mask / 2) os rest in
    by_lowest_bit mask (λ v. mask_bits (cond v (Some o) None ∷ options_of (mask / 2) os) ≡ mask) (λ one. omega arith)
    (λ zero. omega arith)

-- the mask of a stored binding
pub mask_bits-stored : (mask : ℕ) (os : List ℕ) → IsStored mask os → mask_bits (options_of mask os) ≡ mask
mask_bits-stored mask os h = mask_bits-options_of mask os (subst (λ (n : ℕ). mask < 2 ^ n) (sym h.eight) h.mask_fits)
