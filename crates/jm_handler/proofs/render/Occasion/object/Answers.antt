use Rattle.std.proofs.Common.{sym, ◌∙◌, arith}
use Rattle.jm_handler.proofs.RenderLemmas.{null_text, unbound_at, past_the_end}
use Rattle.jm_handler.proofs.render.Occasion.object.Goals as goal
use Rattle.jm_handler.proofs.render.Occasion.object.Goals.{then-mask-eq0-via-then-mask-eq0, then-mask-eq0-via-else-mask-eq0+then-p-ge8}

pub returns-then-mask-eq0 : goal.returns-then-mask-eq0
returns-then-mask-eq0 c =
    rw (← c.self.view_is)
    (elim c.then-mask-eq0.branch [
      | then-mask-eq0-via-then-mask-eq0 w ↦ null_text _ _ (unbound_at c.self.inside.instance.now c.args.p (sym c.mask.ensures.value ∙ w.if-mask-eq0.true))
      | then-mask-eq0-via-else-mask-eq0+then-p-ge8 w ↦ null_text _ _ (past_the_end c.self.inside.instance.now c.args.p (omega (arith, c.mask.ensures.eight)))
    ])

pub name-requires : goal.name-requires
name-requires c = (rw (← c.self.view_is) at c.requires) c.args.p c.in-Some.object (sym c.get.ensures ∙ c.in-Some.is)
