-- The objects of a binding, one parameter after the other.
use Rattle.std.proofs.Common.{◌≡◌, ◌≢◌, ℕ, zero, suc, ◌+◌, ◌*◌, ◌/◌, ◌<◌, List, [], ◌∷◌, ◌++◌, length, drop, refl, sym, ◌∙◌, ap, arith, append_assoc, append-nil}
use Rattle.std.specs.Prelude.{Option, Some, None}
use Rattle.jm_model.specs.Bindings.{object_at, objects_of, mask_of}

drop_none : (n : ℕ) → drop {A = Option ℕ} n [] ≡ []
drop_none zero = refl
drop_none (suc n) = refl

-- one parameter more
objects_from-none : (b : List (Option ℕ)) (p : ℕ) → object_at b p ≡ None → objects_of (drop p b) ≡ objects_of (drop (p + 1) b)
objects_from-none [] zero none = refl
objects_from-none [] (suc p) none = rw (drop_none (suc p), drop_none (suc p + 1)) refl
objects_from-none (None ∷ b) zero none = refl
objects_from-none (Some o ∷ b) zero none = cc
objects_from-none (x ∷ b) (suc p) none =
    let next : suc p + 1 ≡ suc (p + 1) = omega arith in
    rw next (objects_from-none b p none)

objects_from-some : (b : List (Option ℕ)) (p o : ℕ) → object_at b p ≡ Some o → objects_of (drop p b) ≡ o ∷ objects_of (drop (p + 1) b)
objects_from-some [] zero o at = cc
objects_from-some [] (suc p) o at = cc
objects_from-some (None ∷ b) zero o at = cc
objects_from-some (Some q ∷ b) zero o at =
    let is : Some q ≡ Some o = at in
    let same : q ≡ o = cc in
    ap (λ (n : ℕ). n ∷ objects_of b) same
objects_from-some (x ∷ b) (suc p) o at =
    let next : suc p + 1 ≡ suc (p + 1) = omega arith in
    rw next (objects_from-some b p o at)

-- of a list that grows by the objects from a parameter on, what is there and what is to come stay one list
pub one_more : (objects new start : List ℕ) (b : List (Option ℕ)) (p o : ℕ) → new ≡ objects ++ o ∷ [] → object_at b p ≡ Some o
    → objects ++ objects_of (drop p b) ≡ start → new ++ objects_of (drop (p + 1) b) ≡ start
one_more objects new start b p o grown at so_far =
    ap (λ l. l ++ objects_of (drop (p + 1) b)) grown
    ∙ append_assoc objects (o ∷ []) (objects_of (drop (p + 1) b))
    ∙ ap (λ l. objects ++ l) (sym (objects_from-some b p o at))
    ∙ so_far

pub none_more : (objects new start : List ℕ) (b : List (Option ℕ)) (p : ℕ) → new ≡ objects → object_at b p ≡ None
    → objects ++ objects_of (drop p b) ≡ start → new ++ objects_of (drop (p + 1) b) ≡ start
none_more objects new start b p same none so_far =
    ap (λ l. l ++ objects_of (drop (p + 1) b)) same
    ∙ ap (λ l. objects ++ l) (sym (objects_from-none b p none))
    ∙ so_far

-- what is left of a mask is that of the parameters to come
pub left_more : (b : List (Option ℕ)) (p rest : ℕ) → p < length b → rest ≡ mask_of (drop p b) → rest / 2 ≡ mask_of (drop (p + 1) b)
left_more [] p rest h e = absurd (omega arith)
left_more (None ∷ b) zero rest h e = omega (arith, e)
left_more (Some o ∷ b) zero rest h e = omega (arith, e)
left_more (x ∷ b) (suc p) rest h e =
    let next : suc p + 1 ≡ suc (p + 1) = omega arith in
    rw next (left_more b p rest (omega arith) e)

pub left_within : (b : List (Option ℕ)) (p rest : ℕ) → rest ≡ mask_of (drop p b) → rest ≢ 0 → p < length b
left_within [] zero rest e some = absurd (some e)
left_within [] (suc p) rest e some = absurd (some e)
left_within (x ∷ b) zero rest e some = omega arith
left_within (x ∷ b) (suc p) rest e some = omega (arith, left_within b p rest e some)

-- where nothing is left of it, no object is to come
no_objects : (b : List (Option ℕ)) → mask_of b ≡ 0 → objects_of b ≡ []
no_objects [] none = refl
no_objects (None ∷ b) none = no_objects b (omega (arith, none))
no_objects (Some o ∷ b) none = absurd (omega (arith, none))

pub all_there : (objects start : List ℕ) (b : List (Option ℕ)) (p rest : ℕ) → rest ≡ mask_of (drop p b) → rest ≡ 0
    → objects ++ objects_of (drop p b) ≡ start → objects ≡ start
all_there objects start b p rest left none so_far =
    sym (append-nil objects) ∙ ap (λ l. objects ++ l) (sym (no_objects (drop p b) (sym left ∙ none))) ∙ so_far
