use Rattle.std.proofs.Common.{inl, inr, arith}
use Rattle.jm_coenable.proofs.mask_set.MaskSet.insert.Goals as goal

pub invariant_of-self : goal.invariant_of-self
invariant_of-self c = λ mask there. elim ((c.insert.ensures.member mask).0 there) [ inl old ↦ c.self.invariant mask old | inr same ↦ omega (arith, same) ]

pub returns-clause-member : goal.returns-clause-member
returns-clause-member c = λ other. rw (← c.self.view_is) (c.insert.ensures.member other)
