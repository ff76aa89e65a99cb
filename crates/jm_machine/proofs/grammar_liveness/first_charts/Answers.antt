use Rattle.std.proofs.Common.{[], ◌∷◌}
use Rattle.jm_earley.specs.Charts.{IsChartOf}
use Rattle.jm_machine.proofs.LivenessLemmas.{get_push, count_push}
use Rattle.jm_machine.proofs.grammar_liveness.first_charts.Goals as goal

pub loop-letter-preserved : goal.loop-letter-preserved
loop-letter-preserved c = record {
  count = rw c.in_ok-push.ensures.items (count_push c.loop-letter.firsts.items _ c.loop-letter.letter c.loop-letter.invariant.count);
  each = rw c.in_ok-push.ensures.items (get_push (λ e chart. IsChartOf c.args.charts.now (e ∷ []) chart) c.loop-letter.firsts.items _ c.loop-letter.letter c.loop-letter.invariant.count c.loop-letter.invariant.each (c.in_ok-next.ensures [] c.requires.begin));
}
