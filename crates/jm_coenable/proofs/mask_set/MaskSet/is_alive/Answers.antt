use Rattle.std.proofs.Common.{ℕ, List, Contains, sym, subst, arith}
use Rattle.std.proofs.lemmas.Bool.{false≢true}
use Rattle.jm_coenable.proofs.mask_set.MaskSet.is_alive.Goals as goal

pub returns : goal.returns
returns c = (
  λ h. absurd (false≢true h),
  λ h.
      let few = c.self.invariant h.0 (subst (λ (s : List ℕ). Contains s h.0) (sym c.self.view_is) h.1) in
      absurd (c.loop-number.invariant h.0 (omega (arith, few, c.loop-number-test.false)) h.1 h.2),
)
