-- Bindings that agree, and what they share.
use Rattle.std.proofs.Common.{◌≡◌, ℕ, zero, suc, ◌+◌, ◌*◌, ◌/◌, ◌%◌, ◌==◌, ◌<◌, Bool, true, false, cond, List, [], ◌∷◌, Option, Some, None, length, refl, ap, ◌∙◌, subst, arith, eqb}
use Rattle.std.specs.Prelude.{option_and_then}
use Rattle.std.proofs.lemmas.Bool.{and_parts, eqb-true, eq-eqb, ne_eqb}
use Rattle.jm_model.specs.Bindings.{is_compatible, object_at, restriction, mask_of}
use Rattle.jm_index.specs.Index.{is_same}

-- the lowest bit of a set of parameters, and the rest, by whether the first parameter is bound
even : (k : ℕ) → ((2 * k % 2 == 1) ≡ false) × (2 * k / 2 ≡ k)
even k = (ne_eqb (2 * k % 2) 1 (omega arith), omega arith)

odd : (k : ℕ) → (((1 + 2 * k) % 2 == 1) ≡ true) × ((1 + 2 * k) / 2 ≡ k)
odd k = (eq-eqb ((1 + 2 * k) % 2) 1 (omega arith), omega arith)

-- what b gives to the parameters of a, where the two agree, a gives too
pub shared : (a b : List (Option ℕ)) (p o : ℕ) → is_compatible a b ≡ true → object_at (restriction b (mask_of a)) p ≡ Some o → object_at a p ≡ Some o
shared [] [] p o agree at = at
shared [] (y ∷ b) p o agree at = cc
shared (x ∷ a) [] p o agree at = cc
shared (None ∷ a) (y ∷ b) zero o agree at = rw (even (mask_of a)).0 at at
shared (None ∷ a) (y ∷ b) (suc p) o agree at = shared a b p o agree (rw (even (mask_of a)).1 at at)
shared (Some x ∷ a) (None ∷ b) zero o agree at = let none : None ≡ Some o = rw (odd (mask_of a)).0 at at in cc
shared (Some x ∷ a) (None ∷ b) (suc p) o agree at = shared a b p o agree (rw (odd (mask_of a)).1 at at)
shared (Some x ∷ a) (Some y ∷ b) zero o agree at =
    let parts = and_parts (x == y) (is_compatible a b) agree in
    let same : x ≡ y = eqb-true x y parts.0 in
    let is : Some y ≡ Some o = rw (odd (mask_of a)).0 at at in
    ap (λ (n : ℕ). Some n) same ∙ is
shared (Some x ∷ a) (Some y ∷ b) (suc p) o agree at =
    let parts = and_parts (x == y) (is_compatible a b) agree in
    shared a b p o parts.1 (rw (odd (mask_of a)).1 at at)

-- .. and so does b
pub object_at-restriction : (b : List (Option ℕ)) (mask p o : ℕ) → object_at (restriction b mask) p ≡ Some o → object_at b p ≡ Some o
object_at-restriction [] mask p o at = at
object_at-restriction (x ∷ b) mask zero o at = by_bit (mask % 2 == 1) at
  where
    by_bit : (v : Bool) → option_and_then (λ (w : Option ℕ). w) (Some (cond v x None)) ≡ Some o → x ≡ Some o
    by_bit true e = e
    by_bit false e = cc
object_at-restriction (x ∷ b) mask (suc p) o at = object_at-restriction b (mask / 2) p o at

-- a binding that agrees with b and binds what b gives to its parameters is that
pub exact : (a b : List (Option ℕ)) → is_compatible a b ≡ true → mask_of (restriction b (mask_of a)) ≡ mask_of a → restriction b (mask_of a) ≡ a
exact [] [] agree all = refl
exact [] (y ∷ b) agree all = cc
exact (x ∷ a) [] agree all = cc
exact (None ∷ a) (y ∷ b) agree all =
    let masks : 2 * mask_of (restriction b (mask_of a)) ≡ 2 * mask_of a = rw ((even (mask_of a)).0, (even (mask_of a)).1) at all in
    let rest = exact a b agree (omega (arith, masks)) in
    rw ((even (mask_of a)).0, (even (mask_of a)).1) (ap (λ (v : List (Option ℕ)). None ∷ v) rest)
exact (Some x ∷ a) (None ∷ b) agree all =
    let masks : 2 * mask_of (restriction b (mask_of a)) ≡ 1 + 2 * mask_of a = rw ((odd (mask_of a)).0, (odd (mask_of a)).1) at all in
    absurd (omega (arith, masks))
exact (Some x ∷ a) (Some y ∷ b) agree all =
    let parts = and_parts (x == y) (is_compatible a b) agree in
    let same : x ≡ y = eqb-true x y parts.0 in
    let masks : 1 + 2 * mask_of (restriction b (mask_of a)) ≡ 1 + 2 * mask_of a = rw ((odd (mask_of a)).0, (odd (mask_of a)).1) at all in
    let rest = exact a b parts.1 (omega (arith, masks)) in
    rw ((odd (mask_of a)).0, (odd (mask_of a)).1, same) (ap (λ (v : List (Option ℕ)). Some y ∷ v) rest)

-- only a parameter of the binding is bound
pub object_at_within : (b : List (Option ℕ)) (p o : ℕ) → object_at b p ≡ Some o → p < length b
object_at_within [] p o at = cc
object_at_within (x ∷ b) zero o at = omega arith
object_at_within (x ∷ b) (suc p) o at = let rest = object_at_within b p o at in omega (arith, rest)

pub is_same-true : (a b : List (Option ℕ)) → is_same a b ≡ true → a ≡ b
is_same-true [] [] e = refl
is_same-true [] (y ∷ b) e = cc
is_same-true (x ∷ a) [] e = cc
is_same-true (None ∷ a) (None ∷ b) e = ap (λ (v : List (Option ℕ)). None ∷ v) (is_same-true a b e)
is_same-true (None ∷ a) (Some y ∷ b) e = cc
is_same-true (Some x ∷ a) (None ∷ b) e = cc
is_same-true (Some x ∷ a) (Some y ∷ b) e =
    let parts = and_parts (eqb x y) (is_same a b) e in
    rw (eqb-true x y parts.0, is_same-true a b parts.1)

is_same-refl : (a : List (Option ℕ)) → is_same a a ≡ true
is_same-refl [] = refl
is_same-refl (None ∷ a) = is_same-refl a
is_same-refl (Some x ∷ a) = rw (eq-eqb x x refl) (is_same-refl a)

pub is_same-same : (a b : List (Option ℕ)) → a ≡ b → is_same a b ≡ true
is_same-same a b e = subst (λ (v : List (Option ℕ)). is_same a v ≡ true) e (is_same-refl a)

-- what a binding gives to all of its parameters is the binding
pub restriction-whole : (b : List (Option ℕ)) → restriction b (mask_of b) ≡ b
restriction-whole [] = refl
restriction-whole (None ∷ b) = rw ((even (mask_of b)).0, (even (mask_of b)).1) (ap (λ (v : List (Option ℕ)). None ∷ v) (restriction-whole b))
restriction-whole (Some x ∷ b) = rw ((odd (mask_of b)).0, (odd (mask_of b)).1) (ap (λ (v : List (Option ℕ)). Some x ∷ v) (restriction-whole b))

-- what a binding gives to a set of parameters agrees with it
agrees_first : (x : Option ℕ) (bit : Bool) (a b : List (Option ℕ)) → is_compatible a b ≡ true → is_compatible (cond bit x None ∷ a) (x ∷ b) ≡ true
agrees_first None true a b rest = rest
agrees_first None false a b rest = rest
agrees_first (Some o) true a b rest = rw (eq-eqb o o refl) rest
agrees_first (Some o) false a b rest = rest

pub restriction-agrees : (b : List (Option ℕ)) (mask : ℕ) → is_compatible (restriction b mask) b ≡ true
restriction-agrees [] mask = refl
restriction-agrees (x ∷ b) mask = agrees_first x (mask % 2 == 1) (restriction b (mask / 2)) b (restriction-agrees b (mask / 2))
