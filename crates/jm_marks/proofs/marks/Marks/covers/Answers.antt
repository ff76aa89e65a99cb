use Rattle.std.proofs.Common.{ap, sym, refl}
use Rattle.jm_marks.specs.Marks.{MarkList}
use Rattle.jm_marks.proofs.CoverLemmas.{covered-end}
use Rattle.jm_marks.proofs.marks.Marks.covers.Goals as goal

pub returns : goal.returns
returns c = (
  λ _. covered-end _ _ _ _ _ _ _ _ (sym (ap (λ (v : MarkList). v.list) c.self.view_is)) c.self.invariant.0 c.deref-mask-items.ensures.value c.loop-mask-test.false c.loop-mask.invariant,
  λ _. refl,
)
