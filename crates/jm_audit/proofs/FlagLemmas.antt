-- What flags say of a binding's objects, parameter by parameter.
use Rattle.std.proofs.Common.{◌≡◌, ℕ, zero, suc, ◌+◌, ◌-◌, ◌*◌, ◌^◌, ◌<◌, ◌≤◌, Bool, true, false, cond, List, [], ◌∷◌, length, drop, refl, sym, ◌∙◌, ap, arith, inl, inr, pow-suc, length-drop, add_comm}
use Rattle.std.specs.Prelude.{Option, Some, None, find, slice_set, ◌||◌, ◌==◌}
use Rattle.std.proofs.Math.Pow.{pow_mono}
use Rattle.std.proofs.lemmas.Bool.{cases_eq, eq-eqb, ne_eqb}
use Rattle.std.proofs.lemmas.List.{get_or-set_same, get_or-set_other}
use Rattle.jm_model.specs.Bindings.{object_at, mask_where, objects_of}
use Rattle.jm_audit.specs.Flags.{is_flagged, is_flagged_at}

-- ---- the set of the parameters that are bound to dead objects
mask-step : (flags : List Bool) (b : List (Option ℕ)) (p : ℕ) → p < length b
    → mask_where (is_flagged flags) (drop p b) ≡ cond (is_flagged_at flags (object_at b p)) 1 0 + 2 * mask_where (is_flagged flags) (drop (p + 1) b)
mask-step flags [] p h = absurd (omega arith)
mask-step flags (None ∷ b) zero h = omega arith
mask-step flags (Some o ∷ b) zero h = refl
mask-step flags (x ∷ b) (suc p) h =
    let next : suc p + 1 ≡ suc (p + 1) = omega arith in
    rw next (mask-step flags b p (omega arith))

mask-fits : (kind : ℕ → Bool) (b : List (Option ℕ)) → mask_where kind b < 2 ^ length b
mask-fits kind [] = omega arith
mask-fits kind (None ∷ b) =
    let ih = mask-fits kind b in
    rw (pow-suc 2 (length b)) (omega arith)
mask-fits kind (Some o ∷ b) =
    let ih = mask-fits kind b in
    rw (pow-suc 2 (length b)) (elim (kind o) as (λ v. cond v 1 0 + 2 * mask_where kind b < 2 ^ length b * 2) [ true ↦ omega arith | false ↦ omega arith ])

pub mask-room : (flags : List Bool) (b : List (Option ℕ)) (p : ℕ) → length b ≡ 8 → 0 < p → mask_where (is_flagged flags) (drop p b) < 128
mask-room flags b p e h =
    let fits = mask-fits (is_flagged flags) (drop p b) in
    let few : length (drop p b) ≤ 7 = omega (arith, length-drop p b) in
    let top : 2 ^ length (drop p b) ≤ 2 ^ 7 = pow_mono few in
    omega arith

pub mask-end : (flags : List Bool) (b : List (Option ℕ)) (p : ℕ) → length b ≤ p → mask_where (is_flagged flags) (drop p b) ≡ 0
mask-end flags [] zero h = refl
mask-end flags [] (suc p) h = refl
mask-end flags (x ∷ b) zero h = absurd (omega arith)
mask-end flags (x ∷ b) (suc p) h = mask-end flags b p (omega arith)

-- p is the parameter after the one that the loop looks at
pub mask-before : (flags : List Bool) (b : List (Option ℕ)) (p bit dead : ℕ) → bit ≡ cond (is_flagged_at flags (object_at b (p - 1))) 1 0
    → dead ≡ mask_where (is_flagged flags) (drop p b) → 0 < p → p ≤ length b → mask_where (is_flagged flags) (drop (p - 1) b) ≡ 2 * dead + bit
mask-before flags b p bit dead is was low within =
    let here = mask-step flags b (p - 1) (omega arith) in
    let next : p - 1 + 1 ≡ p = omega arith in
    let at : mask_where (is_flagged flags) (drop (p - 1) b) ≡ cond (is_flagged_at flags (object_at b (p - 1))) 1 0 + 2 * mask_where (is_flagged flags) (drop p b) = rw next at here in
    rw (is, was) (at ∙ add_comm _ _)

-- ---- the first dead object
abbrev first : List Bool → List (Option ℕ) → Option ℕ
first flags b = find (is_flagged flags) (objects_of b)

pub first-found : (flags : List Bool) (b : List (Option ℕ)) (p o : ℕ) → object_at b p ≡ Some o → is_flagged flags o ≡ true → first flags (drop p b) ≡ Some o
first-found flags [] p o at dead = absurd (cc (at))
first-found flags (None ∷ b) zero o at dead = absurd (cc (at))
first-found flags (Some q ∷ b) zero o at dead =
    let same : q ≡ o = cc (at) in
    ap (λ v. cond v (Some q) (first flags b)) (ap (is_flagged flags) same ∙ dead) ∙ ap Some same
first-found flags (x ∷ b) (suc p) o at dead = first-found flags b p o at dead

pub first-passed : (flags : List Bool) (b : List (Option ℕ)) (p : ℕ) → p < length b → is_flagged_at flags (object_at b p) ≡ false → first flags (drop p b) ≡ first flags (drop (p + 1) b)
first-passed flags [] p h live = absurd (omega arith)
first-passed flags (None ∷ b) zero h live = refl
first-passed flags (Some q ∷ b) zero h live = ap (λ v. cond v (Some q) (first flags b)) live
first-passed flags (x ∷ b) (suc p) h live =
    let next : suc p + 1 ≡ suc (p + 1) = omega arith in
    rw next (first-passed flags b p (omega arith) live)

pub first-end : (flags : List Bool) (b : List (Option ℕ)) (p : ℕ) → length b ≤ p → first flags (drop p b) ≡ None
first-end flags [] zero h = refl
first-end flags [] (suc p) h = refl
first-end flags (x ∷ b) zero h = absurd (omega arith)
first-end flags (x ∷ b) (suc p) h = first-end flags b p (omega arith)

-- ---- one dead object more
pub flagged-set : (flags : List Bool) (o q : ℕ) → o < length flags → is_flagged (slice_set flags o true) q ≡ (is_flagged flags q || (o == q))
flagged-set flags o q there = elim (cases_eq q o) [
  | inl same ↦
      rw (same, get_or-set_same flags o true false there, eq-eqb o o refl) (sym (or-true (is_flagged flags o)))
  | inr other ↦ rw (get_or-set_other flags o q true false other, ne_eqb o q (λ e. other (sym e))) (sym (or-false (is_flagged flags q)))
]
  where
    or-true : (b : Bool) → (b || true) ≡ true
    or-true true = refl
    or-true false = refl

    or-false : (b : Bool) → (b || false) ≡ b
    or-false true = refl
    or-false false = refl

-- what binds nothing binds nothing dead
pub unflagged : (flags : List Bool) (x : Option ℕ) → ((o : ℕ) → x ≡ Some o → ⊥) → is_flagged_at flags x ≡ false
unflagged flags None h = refl
unflagged flags (Some o) h = absurd (h o refl)
