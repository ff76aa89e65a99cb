use Rattle.std.proofs.lemmas.List.{take_all}
use Rattle.jm_index.proofs.ReadLemmas.{Contains-none}
use Rattle.jm_store.proofs.EndingLemmas.{fewer-refl, fewer-trans, ending_one, ending_more}
use Rattle.jm_store.proofs.ending.end_fewer_by.Goals as goal

pub loop-step-init : goal.loop-step-init
loop-step-init g c = record { fewer = fewer-refl _; ended = λ s there. absurd (Contains-none s there) }

pub loop-step-preserved : goal.loop-step-preserved
loop-step-preserved g c =
    let m = g.M.Monitor.meaning (g.M.Monitor.definition c.args.rules.now) in
    let Stands = g.M.Monitor.StandsFor c.args.rules.now in
    let inv = c.loop-step.invariant in
    let at = c.end_fewer.ensures in
    record {
      fewer = fewer-trans _ _ _ inv.fewer at.fewer;
      ended = ending_more m Stands _ _ c.args.moves.now c.loop-step.step-index c.step-item.result c.loop-step-test.true c.step-item.is at.fewer inv.ended
          (ending_one m Stands _ _ _ _ c.mask.ensures.value at.among c.ending-letters.ensures.quiet c.ending-letters.ensures.cut);
    }

pub returns : goal.returns
returns g c = record {
  fewer = c.loop-step.invariant.fewer;
  ended = rw (take_all c.loop-step.step-index c.args.moves.now c.loop-step-test.false) at c.loop-step.invariant.ended;
}
