use Rattle.std.proofs.Common.{inl, inr}
use Rattle.jm_coenable.proofs.mask_set.MaskSet.insert_if.Goals as goal

pub returns-then-wanted : goal.returns-then-wanted
returns-then-wanted c = λ other. (
  λ h. elim ((c.insert.ensures.member other).0 h) [ inl old ↦ inl old | inr e ↦ inr (c.if-wanted.true, e) ],
  λ h. elim h [ inl old ↦ (c.insert.ensures.member other).1 (inl old) | inr new ↦ (c.insert.ensures.member other).1 (inr new.1) ],
)
