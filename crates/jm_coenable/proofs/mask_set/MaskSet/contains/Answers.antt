use Rattle.std.proofs.Common.{ℕ, List, Contains, subst, sym}
use Rattle.jm_coenable.proofs.mask_set.MaskSet.contains.Goals as goal

pub returns-clause-bounded : goal.returns-clause-bounded
returns-clause-bounded c = λ other there. c.self.invariant other (subst (λ (s : List ℕ). Contains s other) (sym c.self.view_is) there)
