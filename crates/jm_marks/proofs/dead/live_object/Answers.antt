use Rattle.std.proofs.Common.{◌≡◌, true, sym, ◌∙◌, arith}
use Rattle.jm_marks.specs.Marks.{has_live}
use Rattle.jm_marks.proofs.DeadLemmas.{has_live-found, has_live-passed, has_live-end}
use Rattle.jm_marks.proofs.WatchLemmas.{live_watched}
use Rattle.jm_marks.proofs.dead.live_object.Goals as goal

pub returns-then-is_live_at : goal.returns-then-is_live_at
returns-then-is_live_at c =
    let live = sym c.is_live_at.ensures ∙ c.if-is_live_at.true in
    let some : has_live c.args.objects.now c.args.binding.now ≡ true = sym c.loop-p.invariant ∙ has_live-found _ _ c.loop-p.p (omega (arith, c.mask-mask.ensures.eight)) live in
    rw c.get.ensures (live_watched _ _ c.loop-p.p live some)

pub loop-p-preserved : goal.loop-p-preserved
loop-p-preserved c =
    sym (has_live-passed _ _ c.loop-p.p (omega (arith, c.mask-mask.ensures.eight)) (sym c.is_live_at.ensures ∙ c.if-is_live_at.false)) ∙ c.loop-p.invariant

pub returns : goal.returns
returns c = sym c.loop-p.invariant ∙ has_live-end _ _ c.loop-p.p (omega (arith, c.mask-mask.ensures.eight))
