-- The parameters that are bound to dead objects, one after another from the last.
use Rattle.std.proofs.Common.{◌≡◌, ℕ, zero, suc, ◌+◌, ◌-◌, ◌*◌, ◌^◌, ◌<◌, ◌≤◌, Bool, true, false, cond, ◌||◌, List, [], ◌∷◌, Option, Some, None, length, drop, refl, ◌∙◌, ap, arith, pow-suc, length-drop, add_comm}
use Rattle.std.proofs.Math.Pow.{pow_mono}
use Rattle.std.specs.Prelude.{slice_get}
use Rattle.jm_model.specs.Bindings.{object_at, mask_of, mask_where}
use Rattle.jm_marks.specs.Marks.{is_dead_object, is_at_dead, is_at_live, dead_mask_of, has_live}

-- one parameter more in front
pub dead_mask-step : (flags : List Bool) (b : List (Option ℕ)) (p : ℕ) → p < length b
    → dead_mask_of flags (drop p b) ≡ cond (is_at_dead flags (object_at b p)) 1 0 + 2 * dead_mask_of flags (drop (p + 1) b)
dead_mask-step flags [] p h = absurd (omega arith)
dead_mask-step flags (None ∷ b) zero h = omega arith
dead_mask-step flags (Some o ∷ b) zero h = refl
dead_mask-step flags (x ∷ b) (suc p) h =
    let next : suc p + 1 ≡ suc (p + 1) = omega arith in
    rw next (dead_mask-step flags b p (omega arith))

-- a set of as many parameters as the binding has
mask_where-fits : (kind : ℕ → Bool) (b : List (Option ℕ)) → mask_where kind b < 2 ^ length b
mask_where-fits kind [] = omega arith
mask_where-fits kind (None ∷ b) =
    let ih = mask_where-fits kind b in
    rw (pow-suc 2 (length b)) (omega arith)
mask_where-fits kind (Some o ∷ b) =
    let ih = mask_where-fits kind b in
    rw (pow-suc 2 (length b)) (elim (kind o) as (λ v. cond v 1 0 + 2 * mask_where kind b < 2 ^ length b * 2) [ true ↦ omega arith | false ↦ omega arith ])

pub dead_mask-room : (flags : List Bool) (b : List (Option ℕ)) (p : ℕ) → length b ≡ 8 → 0 < p → dead_mask_of flags (drop p b) < 128
dead_mask-room flags b p e h =
    let fits = mask_where-fits (is_dead_object flags) (drop p b) in
    let few : length (drop p b) ≤ 7 = omega (arith, length-drop p b) in
    let top : 2 ^ length (drop p b) ≤ 2 ^ 7 = pow_mono few in
    omega arith

-- where no parameter is bound, none is bound to a dead object
pub dead_mask-none : (flags : List Bool) (b : List (Option ℕ)) → mask_of b ≡ 0 → dead_mask_of flags b ≡ 0
dead_mask-none flags [] e = refl
dead_mask-none flags (None ∷ b) e =
    let ih = dead_mask-none flags b (omega arith) in omega arith
dead_mask-none flags (Some o ∷ b) e = absurd (omega arith)

-- an object of which it isn't said that it is dead is alive
pub alive_of : (flags : List Bool) (o : ℕ) → (slice_get flags o ≡ Some true → ⊥) → is_dead_object flags o ≡ false
alive_of [] o h = refl
alive_of (true ∷ flags) zero h = absurd (h refl)
alive_of (false ∷ flags) zero h = refl
alive_of (x ∷ flags) (suc o) h = alive_of flags o h

-- and where that holds of all objects, no parameter is bound to a dead one
pub dead_mask-alive : (flags : List Bool) (b : List (Option ℕ)) → ((o : ℕ) → is_dead_object flags o ≡ false) → dead_mask_of flags b ≡ 0
dead_mask-alive flags [] h = refl
dead_mask-alive flags (None ∷ b) h = let ih = dead_mask-alive flags b h in omega arith
dead_mask-alive flags (Some o ∷ b) h =
    let ih = dead_mask-alive flags b h in
    rw (h o) (omega arith)

-- nor in what lies after as many parameters as the mask has room in
mask_of-behind : (b : List (Option ℕ)) (p : ℕ) → mask_of b < 2 ^ p → mask_of (drop p b) ≡ 0
mask_of-behind b zero h = omega arith
mask_of-behind [] (suc p) h = refl
mask_of-behind (None ∷ b) (suc p) h = let wide = rw (pow-suc 2 p) at h in mask_of-behind b p (omega arith)
mask_of-behind (Some o ∷ b) (suc p) h = let wide = rw (pow-suc 2 p) at h in mask_of-behind b p (omega arith)

pub dead_mask-behind : (flags : List Bool) (b : List (Option ℕ)) (p : ℕ) → mask_of b < 2 ^ p → dead_mask_of flags (drop p b) ≡ 0
dead_mask-behind flags b p h = dead_mask-none flags (drop p b) (mask_of-behind b p h)

-- a live object is bound at a parameter or after it
pub has_live-step : (flags : List Bool) (b : List (Option ℕ)) (p : ℕ) → p < length b → has_live flags (drop p b) ≡ (is_at_live flags (object_at b p) || has_live flags (drop (p + 1) b))
has_live-step flags [] p h = absurd (omega arith)
has_live-step flags (None ∷ b) zero h = refl
has_live-step flags (Some o ∷ b) zero h = refl
has_live-step flags (x ∷ b) (suc p) h =
    let next : suc p + 1 ≡ suc (p + 1) = omega arith in
    rw next (has_live-step flags b p (omega arith))

pub has_live-found : (flags : List Bool) (b : List (Option ℕ)) (p : ℕ) → p < length b → is_at_live flags (object_at b p) ≡ true → has_live flags (drop p b) ≡ true
has_live-found flags b p h live = has_live-step flags b p h ∙ ap (λ v. v || has_live flags (drop (p + 1) b)) live

pub has_live-passed : (flags : List Bool) (b : List (Option ℕ)) (p : ℕ) → p < length b → is_at_live flags (object_at b p) ≡ false → has_live flags (drop p b) ≡ has_live flags (drop (p + 1) b)
has_live-passed flags b p h none = has_live-step flags b p h ∙ ap (λ v. v || has_live flags (drop (p + 1) b)) none

pub has_live-end : (flags : List Bool) (b : List (Option ℕ)) (p : ℕ) → length b ≤ p → has_live flags (drop p b) ≡ false
has_live-end flags [] zero h = refl
has_live-end flags [] (suc p) h = refl
has_live-end flags (x ∷ b) zero h = absurd (omega arith)
has_live-end flags (x ∷ b) (suc p) h = has_live-end flags b p (omega arith)

-- the same, as the loop goes: p is the parameter after the one that it looks at
pub dead_mask-before : (flags : List Bool) (b : List (Option ℕ)) (p bit dead : ℕ) → bit ≡ cond (is_at_dead flags (object_at b (p - 1))) 1 0
    → dead ≡ dead_mask_of flags (drop p b) → 0 < p → p ≤ length b → dead_mask_of flags (drop (p - 1) b) ≡ 2 * dead + bit
dead_mask-before flags b p bit dead is was low within =
    let here = dead_mask-step flags b (p - 1) (omega arith) in
    let next : p - 1 + 1 ≡ p = omega arith in
    let at : dead_mask_of flags (drop (p - 1) b) ≡ cond (is_at_dead flags (object_at b (p - 1))) 1 0 + 2 * dead_mask_of flags (drop p b) = rw next at here in
    rw (is, was) (at ∙ add_comm _ _)

-- an object is bound only at a parameter that the mask has room for
pub bound_below : (b : List (Option ℕ)) (room q o : ℕ) → mask_of b < 2 ^ room → object_at b q ≡ Some o → q < room
bound_below [] room q o fits at = cc
bound_below (None ∷ b) zero zero o fits at = cc
bound_below (None ∷ b) zero (suc q) o fits at = absurd (omega (arith, bound_below b zero q o (omega (arith, fits)) at))
bound_below (Some x ∷ b) zero q o fits at = absurd (omega (arith, fits))
bound_below (None ∷ b) (suc room) zero o fits at = omega arith
bound_below (None ∷ b) (suc room) (suc q) o fits at =
    let wide = rw (pow-suc 2 room) at fits in
    omega (arith, bound_below b room q o (omega (arith, wide)) at)
bound_below (Some x ∷ b) (suc room) zero o fits at = omega arith
bound_below (Some x ∷ b) (suc room) (suc q) o fits at =
    let wide = rw (pow-suc 2 room) at fits in
    omega (arith, bound_below b room q o (omega (arith, wide)) at)
