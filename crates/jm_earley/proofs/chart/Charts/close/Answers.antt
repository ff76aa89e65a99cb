use Rattle.std.proofs.Common.{◌≡◌, Some, None, slice_get, sym, arith}
use Rattle.jm_earley.specs.declared.item.Item.{Item}
use Rattle.jm_earley.specs.Growth.{IsStep, given}
use Rattle.jm_earley.specs.AwaitIndex.{AreWaiting, IsStepOver}
use Rattle.jm_earley.proofs.GrowthLemmas.{grows_contains, grows_weaker}
use Rattle.jm_earley.proofs.SetLemmas.{no_bits}
use Rattle.jm_earley.proofs.WorkLemmas.{one_worked, one_made, all_worked}
use Rattle.jm_earley.proofs.chart.Charts.close.Goals as goal

pub loop-item-init : goal.loop-item-init
loop-item-init c = record {
  kept_first = λ x there. there;
  worked = λ waiting k x lt at. absurd (omega (arith, lt));
  made = λ waiting x there. given x there;
  predicted = λ n bit. absurd (no_bits n bit);
}

pub loop-item-preserved : goal.loop-item-preserved
loop-item-preserved c =
    let g = c.args.self.now.grammar in
    let kept = c.args.kept.now in
    let place = c.args.place in
    let old = c.loop-item.growth.set in
    let new = c.work.new.growth.set in
    let item = c.in-Some.item in
    let at : slice_get old c.loop-item.number ≡ Some item = sym c.in-Some.ensures.value in
    let grows = c.in_ok-work.ensures.grows in
    let before = c.loop-item.invariant in
    let P = λ (y : Item). IsStepOver g kept place item y in
    let steps = λ (waiting : AreWaiting g kept). grows_weaker P (λ (y : Item). IsStep g kept place item y) (λ y step. step waiting) old new grows in
    record {
      kept_first = λ x there. grows_contains P old new x grows (before.kept_first x there);
      worked = λ waiting. one_worked g kept place c.args.first c.loop-item.number item old new at (steps waiting) (c.in_ok-work.ensures.worked waiting) (before.worked waiting);
      made = λ waiting. one_made g kept place c.args.first c.loop-item.number item old new at (steps waiting) (before.made waiting);
      predicted = c.in_ok-work.ensures.predicted;
    }

pub returns : goal.returns
returns c = λ waiting.
    let end : slice_get c.loop-item.growth.set c.loop-item.number ≡ None = sym c.in_default.ensures.value in
    record {
      kept_first = c.loop-item.invariant.kept_first;
      worked = all_worked c.args.self.now.grammar c.args.kept.now c.args.place c.args.first c.loop-item.number c.loop-item.growth.set end (c.loop-item.invariant.worked waiting);
      made = c.loop-item.invariant.made waiting;
    }
