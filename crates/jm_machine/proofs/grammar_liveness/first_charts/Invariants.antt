use Rattle.std.proofs.Common.{ℕ, ◌≡◌, [], ◌∷◌, Some, length}
use Rattle.std.specs.Prelude.{slice_get}
use Rattle.jm_earley.specs.Charts.{ChartDefinition, IsChartOf}
use Rattle.jm_machine.proofs.grammar_liveness.first_charts.Given as goal

abbrev pub invariant-loop-letter : goal.invariant-loop-letter
invariant-loop-letter l = record {
  count : length l.firsts.items ≡ l.letter;
  each : (e : ℕ) (chart : ChartDefinition) → slice_get l.firsts.items e ≡ Some chart → IsChartOf l.charts (e ∷ []) chart;
}
