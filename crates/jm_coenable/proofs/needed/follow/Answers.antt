use Rattle.std.proofs.Common.{ℕ, ◌≡◌, subst, ◌∙◌, arith}
use Rattle.jm_coenable.specs.Rounds.{AreNeeded, IsPart, IsClosedBelow}
use Rattle.jm_coenable.proofs.NeedLemmas.{follow_begins, follow_more}
use Rattle.jm_coenable.proofs.needed.follow.Goals as goal

pub loop-number-init : goal.loop-number-init
loop-number-init c =
    follow_begins c.args.table.now c.args.goal.now c.args.events.now c.args.state c.args.letter.0 c.step-next.result c.mask-params.result c.requires.letter c.step-next.ensures.value
    c.mask-params.ensures.value c.args.needed.now.items c.put-changed.new.sets.items c.is_handled-hit.result c.put-changed.result c.mask-params.type_inv c.is_handled-hit.ensures c.put-changed.ensures

pub loop-number-preserved : goal.loop-number-preserved
loop-number-preserved c =
    follow_more c.args.table.now c.args.goal.now c.args.events.now c.args.state c.args.letter.0 c.step-next.result c.mask-params.result c.requires.letter c.step-next.ensures.value
    c.mask-params.ensures.value c.args.needed.now.items c.loop-number.needed.items c.put-more.new.sets.items c.index.result.now c.loop-number.number c.contains-wanted.result
    c.loop-number.changed c.put-more.result c.step-next.ensures.within (c.loop-number.invariant.count ∙ c.requires.count) c.index.ensures c.contains-wanted.ensures.member
    c.loop-number.invariant c.put-more.ensures

pub returns : goal.returns
returns c =
    let t = c.args.table.now in let g = c.args.goal.now in let v = c.args.events.now in
    let whole : c.loop-number.number ≡ 256 = omega arith in
    subst (λ (n : ℕ). IsPart (AreNeeded t g v) (IsClosedBelow t g v c.args.state c.args.letter.0 n) c.args.needed.now.items c.loop-number.needed.items c.loop-number.changed) whole
    c.loop-number.invariant
