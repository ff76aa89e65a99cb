use Rattle.std.proofs.Common.{sym, subst, arith}
use Rattle.jm_script.specs.Meanings.{RisesFrom}
use Rattle.jm_script.proofs.CompactLemmas.{taken_more, taken_all}
use Rattle.jm_script.proofs.script.Script.whole.Goals as goal

pub loop-place-preserved : goal.loop-place-preserved
loop-place-preserved c = taken_more _ _ _ c.args.compact.now c.line-line.result c.loop-place.invariant c.line-line.ensures c.in_ok-push.ensures.items

pub of-requires : goal.of-requires
of-requires c =
    let all = taken_all _ c.args.compact.now c.loop-place.place c.loop-place.invariant (omega (arith, c.loop-place-test.false, c.len-place-end.ensures.value)) in
    subst (RisesFrom 1) (sym all) c.len.ensures.rising
