-- A mark below a binding is what the binding gives to the mark's parameters.
use Rattle.std.proofs.Common.{◌≡◌, ℕ, ◌+◌, ◌*◌, ◌/◌, ◌%◌, ◌<◌, ◌≤◌, ◌==◌, Bool, true, false, cond, List, [], ◌∷◌, Option, Some, None, length, get_or, refl, sym, ap, ◌∙◌, subst, arith}
use Rattle.std.specs.Prelude.{Contains}
use Rattle.std.proofs.lemmas.Bool.{and_parts, eqb-true, eq-eqb, ne_eqb}
use Rattle.std.proofs.lemmas.Grind.{get_or_default_zero}
use Rattle.jm_model.specs.Bindings.{keeps, is_below, restriction, mask_of}
use Rattle.jm_marks.specs.Layout.{AreMarks}
use Rattle.jm_marks.specs.Marks.{IsCovered, IsCoveredAt}

keeps_cond : (b : Bool) (x : Option ℕ) → keeps (cond b x None) x ≡ true
keeps_cond true None = refl
keeps_cond true (Some o) = eq-eqb o o refl
keeps_cond false x = refl

-- what a binding gives to a set of parameters lies below it
pub is_below-restriction : (a : List (Option ℕ)) (mask : ℕ) → is_below (restriction a mask) a ≡ true
is_below-restriction [] mask = refl
is_below-restriction (x ∷ a) mask = rw (keeps_cond (mask % 2 == 1) x) (is_below-restriction a (mask / 2))

even_bit : (k : ℕ) → (2 * k % 2 == 1) ≡ false
even_bit k = ne_eqb (2 * k % 2) 1 (omega arith)

odd_bit : (k : ℕ) → ((1 + 2 * k) % 2 == 1) ≡ true
odd_bit k = eq-eqb ((1 + 2 * k) % 2) 1 (omega arith)

even_half : (k : ℕ) → 2 * k / 2 ≡ k
even_half k = omega arith

odd_half : (k : ℕ) → (1 + 2 * k) / 2 ≡ k
odd_half k = omega arith

-- what lies below a binding is what the binding gives to its parameters
pub restriction-below : (m a : List (Option ℕ)) → is_below m a ≡ true → restriction a (mask_of m) ≡ m
restriction-below [] [] e = refl
restriction-below [] (y ∷ a) e = cc
restriction-below (x ∷ m) [] e = cc
restriction-below (None ∷ m) (y ∷ a) e =
    rw (even_bit (mask_of m), even_half (mask_of m)) (ap (λ (v : List (Option ℕ)). None ∷ v) (restriction-below m a e))
restriction-below (Some o ∷ m) (None ∷ a) e = cc
restriction-below (Some o ∷ m) (Some q ∷ a) e =
    let parts = and_parts (o == q) (is_below m a) e in
    let same : o ≡ q = eqb-true o q parts.0 in
    rw (odd_bit (mask_of m), odd_half (mask_of m), same) (ap (λ (v : List (Option ℕ)). Some q ∷ v) (restriction-below m a parts.1))

-- a mark that is what `above` gives to its parameters, and not below `below`
pub uncovered : (marks : List (List (Option ℕ))) (above below : List (Option ℕ)) (mask : ℕ) → is_below (restriction above mask) below ≡ false
    → Contains marks (restriction above mask) → IsCovered marks above below → ⊥
uncovered marks above below mask isnt there covered =
    let is_so : is_below (restriction above mask) below ≡ true = covered _ there (is_below-restriction above mask) in
    cc

-- no such mark, where what `above` gives to the parameters lies below `below`
pub covered-below : (marks : List (List (Option ℕ))) (above below : List (Option ℕ)) (mask : ℕ) → is_below (restriction above mask) below ≡ true
    → IsCoveredAt marks above below mask
covered-below marks above below mask is_so m there is low =
    let part : restriction above mask ≡ m = subst (λ (n : ℕ). restriction above n ≡ m) is (restriction-below m above low) in
    subst (λ (v : List (Option ℕ)). is_below v below ≡ true) part is_so

-- .. or isn't a mark
pub covered-absent : (marks : List (List (Option ℕ))) (above below : List (Option ℕ)) (mask : ℕ) → (Contains marks (restriction above mask) → ⊥)
    → IsCoveredAt marks above below mask
covered-absent marks above below mask absent m there is low =
    let part : restriction above mask ≡ m = subst (λ (n : ℕ). restriction above n ≡ m) is (restriction-below m above low) in
    absurd (absent (subst (λ (v : List (Option ℕ)). Contains marks v) (sym part) there))

-- .. or has other parameters
pub covered-other : (marks : List (List (Option ℕ))) (above below : List (Option ℕ)) (mask : ℕ) → (mask_of (restriction above mask) ≡ mask → ⊥)
    → IsCoveredAt marks above below mask
covered-other marks above below mask other m there is low =
    let part : restriction above mask ≡ m = subst (λ (n : ℕ). restriction above n ≡ m) is (restriction-below m above low) in
    absurd (other (ap mask_of part ∙ is))

-- the marks of all listed sets of parameters
pub covered-all : (marks : List (List (Option ℕ))) (masks : List ℕ) (limit : ℕ) (above below : List (Option ℕ)) → AreMarks marks masks limit
    → ((k : ℕ) → k < length masks → IsCoveredAt marks above below (get_or masks k 0)) → IsCovered marks above below
covered-all marks masks limit above below are at m there low =
    let (k, h, e) = are.listed m there in
    at k h m there (sym e ∙ get_or_default_zero masks k (mask_of m) h) low

-- the same, at the end of the loop over the listed sets of parameters
pub covered-end : (list keys : List (List (Option ℕ))) (masks items : List ℕ) (limit n : ℕ) (above below : List (Option ℕ)) → list ≡ keys → AreMarks keys masks limit → items ≡ masks
    → length items ≤ n → ((k : ℕ) → k < n → IsCoveredAt list above below (get_or items k 0)) → IsCovered list above below
covered-end list keys masks items limit n above below same are is end at =
    let here : AreMarks list masks limit = subst (λ (v : List (List (Option ℕ))). AreMarks v masks limit) (sym same) are in
    let all : AreMarks list items limit = subst (λ (v : List ℕ). AreMarks list v limit) (sym is) here in
    covered-all list items limit above below all (λ k h. at k (omega arith))

pub not_true : (b : Bool) → b ≡ false → b ≡ true → ⊥
not_true b isnt is_so = cc
