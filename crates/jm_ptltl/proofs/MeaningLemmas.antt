-- What holds at a position follows from what holds there of the parts, and from the position before.
use Rattle.std.proofs.Common.{ℕ, suc, ◌≡◌, ◌<◌, ◌-◌, ◌↔◌, ◌⊎◌, inl, inr, Bool, true, false, not, cond, ◌&&◌, ◌||◌, Decides, refl, sym, subst, arith}
use Rattle.std.proofs.lemmas.Bool.{cases_lt}
use Rattle.std.proofs.lemmas.Bool.Decides.{Decides-and, Decides-or, Decides-like}
use Rattle.jm_ptltl.specs.declared.formula.Unary.TheVariants.{Historically, Once, Previously}
use Rattle.jm_ptltl.specs.declared.formula.Binary.TheVariants.{Since}
use Rattle.jm_ptltl.specs.Meanings.{HoldsUnary, HoldsBinary}

-- ---- connectives

pub equivalent_decides : (P Q : Type 0) (x y : Bool) → Decides x P → Decides y Q → Decides (cond x y (not y)) (P ↔ Q)
equivalent_decides P Q true true p q = (λ _. (λ _. q.0 refl, λ _. p.0 refl), λ _. refl)
equivalent_decides P Q true false p q = (λ e. absurd (cc), λ h. q.1 (h.0 (p.0 refl)))
equivalent_decides P Q false true p q = (λ e. absurd (cc), λ h. p.1 (h.1 (q.0 refl)))
equivalent_decides P Q false false p q = (λ _. (λ h. absurd (let e = p.1 h in cc), λ h. absurd (let e = q.1 h in cc)), λ _. refl)

pub implies_decides : (P Q : Type 0) (x y : Bool) → Decides x P → Decides y Q → Decides (not x || y) (P → Q)
implies_decides P Q true true p q = (λ _ _. q.0 refl, λ _. refl)
implies_decides P Q true false p q = (λ e. absurd (cc), λ h. q.1 (h (p.0 refl)))
implies_decides P Q false y p q = (λ _ h. absurd (let e = p.1 h in cc), λ _. refl)

pub xor_decides : (P Q : Type 0) (x y : Bool) → Decides x P → Decides y Q → Decides (cond x (not y) y) ((P × (¬ Q)) ⊎ ((¬ P) × Q))
xor_decides P Q true true p q = (λ e. absurd (cc), λ h. absurd (elim h [ inl l ↦ l.1 (q.0 refl) | inr r ↦ r.0 (p.0 refl) ]))
xor_decides P Q true false p q = (λ _. inl (p.0 refl, λ h. let e = q.1 h in absurd (cc)), λ _. refl)
xor_decides P Q false true p q = (λ _. inr (λ h. let e = p.1 h in absurd (cc), q.0 refl), λ _. refl)
xor_decides P Q false false p q = (λ e. absurd (cc), λ h. absurd (elim h [ inl l ↦ (let e = p.1 l.0 in absurd (cc)) | inr r ↦ (let e = q.1 r.1 in absurd (cc)) ]))

-- ---- the past

module _ (F G : ℕ → Type 0) where
  pub historically_zero : Decides true (HoldsUnary Historically F 0)
  historically_zero = (λ _ m low high. absurd (omega arith), λ _. refl)

  pub historically_more : (n : ℕ) (now before : Bool) → Decides now (F (suc n)) → Decides before (HoldsUnary Historically F n) → Decides (now && before) (HoldsUnary Historically F (suc n))
  historically_more n now before here past = Decides-like (now && before)
      (λ h m low high. elim (cases_lt m (suc n)) [
        | inl lt ↦ h.1 m low (omega (arith, lt))
        | inr ge ↦ let e : suc n ≡ m = omega (arith, ge, high) in subst F e h.0
      ])
      (λ h. (h (suc n) (omega arith) (omega arith), λ m low high. h m low (omega (arith, high))))
      (Decides-and now before here past)

  pub once_zero : Decides false (HoldsUnary Once F 0)
  once_zero = (λ e. absurd (cc), λ h. absurd (omega (arith, h.1, h.2)))

  pub once_more : (n : ℕ) (now before : Bool) → Decides now (F (suc n)) → Decides before (HoldsUnary Once F n) → Decides (now || before) (HoldsUnary Once F (suc n))
  once_more n now before here past = Decides-like (now || before)
      (elim [ inl h ↦ (suc n, omega arith, omega arith, h) | inr h ↦ (h.0, h.1, omega (arith, h.2), h.3) ])
      (λ h. elim (cases_lt h.0 (suc n)) [
        | inl lt ↦ inr (h.0, h.1, omega (arith, lt), h.3)
        | inr ge ↦ let e : h.0 ≡ suc n = omega (arith, ge, h.2) in inl (subst F e h.3)
      ])
      (Decides-or now before here past)

  pub previously_first : Decides false (HoldsUnary Previously F 1)
  previously_first = (λ e. absurd (cc), λ h. absurd (omega (arith, h.0)))

  pub previously_more : (n : ℕ) (before : Bool) → 0 < n → Decides before (F n) → Decides before (HoldsUnary Previously F (suc n))
  previously_more n before some past =
      let e : n ≡ suc n - 1 = omega arith in
      (λ h. (omega (arith, some), subst F e (past.0 h)), λ h. past.1 (subst F (sym e) h.1))

  pub since_zero : Decides false (HoldsBinary Since F G 0)
  since_zero = (λ e. absurd (cc), λ h. absurd (omega (arith, h.1, h.2)))

  pub since_more : (n : ℕ) (left right before : Bool) → Decides left (F (suc n)) → Decides right (G (suc n)) → Decides before (HoldsBinary Since F G n) → Decides (right || (left && before)) (HoldsBinary Since F G (suc n))
  since_more n left right before here there past = Decides-like (right || (left && before))
      (elim [
        | inl g ↦ (suc n, omega arith, omega arith, g, λ k low high. absurd (omega arith))
        | inr h ↦ let s = h.1 in (
          s.0,
          s.1,
          omega (arith, s.2),
          s.3,
          λ k low high. elim (cases_lt k (suc n)) [
            | inl lt ↦ s.4 k low (omega (arith, lt))
            | inr ge ↦ let e : suc n ≡ k = omega (arith, ge, high) in subst F e h.0
          ],
        )
      ])
      (λ s. elim (cases_lt s.0 (suc n)) [
        | inl lt ↦ inr (s.4 (suc n) lt (omega arith), (s.0, s.1, omega (arith, lt), s.3, λ k low high. s.4 k low (omega (arith, high))))
        | inr ge ↦ let e : s.0 ≡ suc n = omega (arith, ge, s.2) in inl (subst G e s.3)
      ])
      (Decides-or right (left && before) there (Decides-and left before here past))
