use Rattle.std.proofs.Common.{inl, inr, sym, ◌∙◌}
use Rattle.std.proofs.lemmas.Bool.{false≢true}
use Rattle.jm_coenable.proofs.start.add_first.Goals as goal

pub returns-then-first : goal.returns-then-first
returns-then-first c = λ mask. (
  λ h. elim ((c.add_step.ensures mask).0 h) [ inl old ↦ inl old | inr step ↦ inr (c.begins-first.ensures.0 c.if-first.true, step) ],
  λ h. elim h [ inl old ↦ (c.add_step.ensures mask).1 (inl old) | inr step ↦ (c.add_step.ensures mask).1 (inr step.1) ],
)

pub returns-else-first : goal.returns-else-first
returns-else-first c = λ mask. (
  λ h. inl h,
  λ h. elim h [ inl old ↦ old | inr step ↦ absurd (false≢true (sym c.if-first.false ∙ c.begins-first.ensures.1 step.0)) ],
)
