use Rattle.std.proofs.Common.{sym, ◌∙◌}
use Rattle.test_handler.proofs.NamedLemmas.{named_none, named_all}
use Rattle.test_handler.proofs.scene.are_named.Goals as goal

pub returns-then-mask-eq0 : goal.returns-then-mask-eq0
returns-then-mask-eq0 c = λ _. named_none _ _ (sym c.mask.ensures.value ∙ c.if-mask-eq0.true)

pub returns : goal.returns
returns c = λ _. named_all _ _ c.loop-p.p c.mask.ensures.eight c.loop-p-test.false c.loop-p.invariant
