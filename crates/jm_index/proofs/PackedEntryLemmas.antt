-- A binding of one object or two, by their parameters.
use Rattle.std.proofs.Common.{◌≡◌, ℕ, zero, suc, ◌+◌, ◌<◌, ◌≤◌, List, [], ◌∷◌, Option, Some, None, length, set, replicate, refl, sym, ap, ◌∙◌, subst, arith}
use Rattle.std.proofs.lemmas.List.{nil_from_length}
use Rattle.jm_model.specs.Bindings.{object_at, objects_of, empty, bound}

abbrev Bound : Type 0
Bound = List (Option ℕ)

-- nothing is bound
no_objects : (b : Bound) → objects_of b ≡ [] → b ≡ replicate (length b) None
no_objects [] none = refl
no_objects (None ∷ b) none = ap (λ (v : Bound). None ∷ v) (no_objects b none)
no_objects (Some o ∷ b) none = cc

some_object : (b : Bound) (p o : ℕ) → object_at b p ≡ Some o → 0 < length (objects_of b)
some_object [] p o at = cc
some_object (None ∷ b) zero o at = cc
some_object (None ∷ b) (suc p) o at = some_object b p o at
some_object (Some q ∷ b) zero o at = omega arith
some_object (Some q ∷ b) (suc p) o at = omega arith

-- one object is bound
one_object : (b : Bound) (p o : ℕ) → object_at b p ≡ Some o → length (objects_of b) ≡ 1 → b ≡ set (replicate (length b) None) p (Some o)
one_object [] p o at one = cc
one_object (None ∷ b) zero o at one = cc
one_object (None ∷ b) (suc p) o at one = ap (λ (v : Bound). None ∷ v) (one_object b p o at one)
one_object (Some q ∷ b) zero o at one =
    let same : Some q ≡ Some o = at in
    let rest = no_objects b (nil_from_length (objects_of b) (omega (arith, one))) in
    ap (λ (x : Option ℕ). x ∷ b) same ∙ ap (λ (v : Bound). Some o ∷ v) rest
one_object (Some q ∷ b) (suc p) o at one = let more = some_object b p o at in absurd (omega (arith, more, one))

pub bound_alone : (b : Bound) (p o : ℕ) (rest : List ℕ) → length b ≡ 8 → object_at b p ≡ Some o → objects_of b ≡ o ∷ rest → rest ≡ [] → bound empty p o ≡ b
bound_alone b p o rest eight at first none =
    let alone = one_object b p o at (rw (first, none) refl) in
    sym (subst (λ (n : ℕ). b ≡ set (replicate n None) p (Some o)) eight alone)

-- two objects are bound
some_objects : (b : Bound) (p q o r : ℕ) → p < q → object_at b p ≡ Some o → object_at b q ≡ Some r → 1 < length (objects_of b)
some_objects [] p q o r low at and = cc
some_objects (None ∷ b) zero q o r low at and = cc
some_objects (None ∷ b) (suc p) zero o r low at and = absurd (omega (arith, low))
some_objects (None ∷ b) (suc p) (suc q) o r low at and = some_objects b p q o r (omega (arith, low)) at and
some_objects (Some x ∷ b) p zero o r low at and = absurd (omega (arith, low))
some_objects (Some x ∷ b) p (suc q) o r low at and = let more = some_object b q r and in omega (arith, more)

two_objects : (b : Bound) (p q o r : ℕ) → p < q → object_at b p ≡ Some o → object_at b q ≡ Some r → length (objects_of b) ≡ 2
    → b ≡ set (set (replicate (length b) None) p (Some o)) q (Some r)
two_objects [] p q o r low at and two = cc
two_objects (None ∷ b) zero q o r low at and two = cc
two_objects (None ∷ b) (suc p) zero o r low at and two = absurd (omega (arith, low))
two_objects (None ∷ b) (suc p) (suc q) o r low at and two = ap (λ (v : Bound). None ∷ v) (two_objects b p q o r (omega (arith, low)) at and two)
two_objects (Some x ∷ b) p zero o r low at and two = absurd (omega (arith, low))
two_objects (Some x ∷ b) zero (suc q) o r low at and two =
    let same : Some x ≡ Some o = at in
    let rest = one_object b q r and (omega (arith, two)) in
    ap (λ (y : Option ℕ). y ∷ b) same ∙ ap (λ (v : Bound). Some o ∷ v) rest
two_objects (Some x ∷ b) (suc p) (suc q) o r low at and two =
    let more = some_objects b p q o r (omega (arith, low)) at and in
    absurd (omega (arith, more, two))

pub bound_both : (b : Bound) (p q o r : ℕ) (mid rest : List ℕ) → length b ≡ 8 → p + 1 ≤ q → object_at b p ≡ Some o → object_at b q ≡ Some r
    → objects_of b ≡ o ∷ mid → mid ≡ r ∷ rest → rest ≡ [] → bound (bound empty p o) q r ≡ b
bound_both b p q o r mid rest eight low at and first then none =
    let both = two_objects b p q o r (omega (arith, low)) at and (rw (first, then, none) refl) in
    sym (subst (λ (n : ℕ). b ≡ set (set (replicate n None) p (Some o)) q (Some r)) eight both)
