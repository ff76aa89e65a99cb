use Rattle.std.proofs.Common.{◌≡◌, ℕ, zero, suc, ◌+◌, ◌*◌, ◌/◌, ◌%◌, ◌<◌, ◌≤◌, min, Bool, true, false, cond, inl, inr, [], ◌∷◌, refl, sym, ◌∙◌, ap, arith}
use Rattle.std.specs.Prelude.{Option, Some, None, bit_and}
use Rattle.std.specs.Int.{bit_at}
use Rattle.std.proofs.lemmas.Bool.{cases_Bool}
use Rattle.std.proofs.lemmas.Nat.Bits.{bit_at_lowest, bit_at-suc, bit_at-zero, bit_at_and, same_from_bits}
use Rattle.jm_model.specs.Bindings.{is_below, object_at, mask_where, mask_of}
use Rattle.jm_model.specs.declared.binding.Binding.{Binding}
use Rattle.jm_semantics.proofs.BindingLemmas.{below-object}

-- ---- the bits of a mask
-- the bit of a parameter that is given this object, if any
abbrev bit_where : (ℕ → Bool) → Option ℕ → ℕ
bit_where kind None = 0
bit_where kind (Some o) = cond (kind o) 1 0

even : (c n : ℕ) → c < 2 → ((c + 2 * n) % 2 ≡ c) × ((c + 2 * n) / 2 ≡ n)
even c n h = (omega arith, omega arith)

bit_at-even : (c n p : ℕ) → c < 2 → (bit_at (c + 2 * n) 0 ≡ c) × (bit_at (c + 2 * n) (suc p) ≡ bit_at n p)
bit_at-even c n p h =
    (bit_at_lowest (c + 2 * n) ∙ (even c n h).0, bit_at-suc (c + 2 * n) p ∙ ap (λ x. bit_at x p) (even c n h).1)

zero-add' : (n : ℕ) → 2 * n ≡ 0 + 2 * n
zero-add' n = omega arith

cond-lt : (b : Bool) → cond b 1 0 < 2
cond-lt true = omega arith
cond-lt false = omega arith

-- bit p of the mask tells of the object at p
bit_at-mask_where : (kind : ℕ → Bool) (b : Binding) (p : ℕ) → bit_at (mask_where kind b) p ≡ bit_where kind (object_at b p)
bit_at-mask_where kind [] p = bit_at-zero p
bit_at-mask_where kind (None ∷ b) zero = ap (λ x. bit_at x 0) (zero-add' (mask_where kind b)) ∙ (bit_at-even 0 (mask_where kind b) 0 (omega arith)).0
bit_at-mask_where kind (None ∷ b) (suc p) =
    ap (λ x. bit_at x (suc p)) (zero-add' (mask_where kind b)) ∙ (bit_at-even 0 (mask_where kind b) p (omega arith)).1 ∙ bit_at-mask_where kind b p
bit_at-mask_where kind (Some o ∷ b) zero = (bit_at-even (cond (kind o) 1 0) (mask_where kind b) 0 (cond-lt (kind o))).0
bit_at-mask_where kind (Some o ∷ b) (suc p) = (bit_at-even (cond (kind o) 1 0) (mask_where kind b) p (cond-lt (kind o))).1 ∙ bit_at-mask_where kind b p

-- ---- one mask within another
-- each bit of the one mask is a bit of the other
abbrev pub IsWithin : ℕ → ℕ → Type 0
IsWithin fewer more = (p : ℕ) → bit_at fewer p ≤ bit_at more p

bit_where-mono : (kind wider : ℕ → Bool) (x y : Option ℕ) → ((o : ℕ) → kind o ≡ true → wider o ≡ true) → ((o : ℕ) → x ≡ Some o → y ≡ Some o) → bit_where kind x ≤ bit_where wider y
bit_where-mono kind wider None y h k = omega arith
bit_where-mono kind wider (Some o) y h k =
    elim (cases_Bool (kind o)) [
      | inl holds ↦ rw (k o refl, holds, h o holds) (omega arith)
      | inr fails ↦ rw fails (omega arith)
    ]

-- a larger kind and a binding further up have a larger mask
pub mask_where-mono : (kind wider : ℕ → Bool) (b t : Binding) → ((o : ℕ) → kind o ≡ true → wider o ≡ true) → is_below b t ≡ true → IsWithin (mask_where kind b) (mask_where wider t)
mask_where-mono kind wider b t h below p =
    let mine = bit_at-mask_where kind b p in
    let theirs = bit_at-mask_where wider t p in
    omega (arith, bit_where-mono kind wider (object_at b p) (object_at t p) h (λ o at. below-object b t p o below at))

-- ---- masks that are apart
-- no bit is in both
and-zero : (a b : ℕ) → ((p : ℕ) → min (bit_at a p) (bit_at b p) ≡ 0) → bit_and a b ≡ 0
and-zero a b h = same_from_bits (bit_and a b) 0 (λ p. bit_at_and a b p ∙ h p ∙ sym (bit_at-zero p))

bits-apart : (a b p : ℕ) → bit_and a b ≡ 0 → min (bit_at a p) (bit_at b p) ≡ 0
bits-apart a b p h = sym (bit_at_and a b p) ∙ ap (λ n. bit_at n p) h ∙ bit_at-zero p

min-mono : (a b c : ℕ) → b ≤ c → min a c ≡ 0 → min a b ≡ 0
min-mono a b c h k = omega arith

-- what is apart from the larger mask is apart from the smaller one
pub apart-within : (mask fewer more : ℕ) → IsWithin fewer more → bit_and mask more ≡ 0 → bit_and mask fewer ≡ 0
apart-within mask fewer more h a =
    and-zero mask fewer (λ p. min-mono (bit_at mask p) (bit_at fewer p) (bit_at more p) (h p) (bits-apart mask more p a))

-- where b binds live objects alone, its parameters are apart from the dead ones of a binding above it
pub live-apart : (dead : ℕ → Bool) (b t : Binding) → is_below b t ≡ true → ((p o : ℕ) → object_at b p ≡ Some o → dead o ≡ false) → bit_and (mask_of b) (mask_where dead t) ≡ 0
live-apart dead b t h live =
    and-zero (mask_of b) (mask_where dead t) (λ p.
    let mine = bit_at-mask_where (λ _. true) b p in
    let theirs = bit_at-mask_where dead t p in
    let none = at p (object_at b p) refl in
    omega (arith, mine, theirs, none))
  where
    at : (p : ℕ) (x : Option ℕ) → object_at b p ≡ x → min (bit_where (λ _. true) x) (bit_where dead (object_at t p)) ≡ 0
    at p None e = omega arith
    at p (Some o) e = rw (below-object b t p o h e, live p o e) (omega arith)
