use Rattle.std.proofs.Common.{ap, sym, ◌∙◌}
use Rattle.jm_model.specs.Bindings.{mask_of}
use Rattle.jm_marks.proofs.CoverLemmas.{covered-other, covered-below, covered-absent, uncovered, not_true}
use Rattle.jm_marks.proofs.marks.Marks.breaks.Goals as goal

pub returns-then-mask-clause-none : goal.returns-then-mask-clause-none
returns-then-mask-clause-none c =
    λ _. covered-other _ _ _ _ (λ e. c.if-mask.true (c.mask.ensures.value ∙ ap mask_of c.restrict-part.ensures ∙ e))

pub returns-then-le-clause-none : goal.returns-then-le-clause-none
returns-then-le-clause-none c =
    λ _. covered-below _ _ _ _ (rw c.restrict-part.ensures at (sym c.le.ensures ∙ c.if-le.true))

pub returns-clause-found : goal.returns-clause-found
returns-clause-found c =
    λ yes. uncovered _ _ _ _ (rw c.restrict-part.ensures at (sym c.le.ensures ∙ c.if-le.false)) (rw c.restrict-part.ensures at (c.contains.ensures.0 yes))

pub returns-clause-none : goal.returns-clause-none
returns-clause-none c =
    λ no. covered-absent _ _ _ _ (λ there. not_true _ no (c.contains.ensures.1 (rw (c.restrict-part.ensures) there)))
