use Rattle.std.proofs.Common.{ℕ, List, ◌↔◌, take}
use Rattle.std.specs.Prelude.{IsBitSet, IsSomeAnd, slice_get}
use Rattle.jm_grammar.specs.Categories.{GrammarHolds}
use Rattle.jm_earley.specs.Charts.{IsChartOf}
use Rattle.jm_machine.proofs.grammar_liveness.handlers_of_chart.Given as goal

abbrev pub invariant-loop-handler : goal.invariant-loop-handler
invariant-loop-handler l = (word : List ℕ) → IsChartOf l.charts word l.chart → (k : ℕ) → IsBitSet l.hits k ↔ IsSomeAnd (slice_get (take l.handler l.goal.groups) k) (λ group. GrammarHolds l.charts.grammar group word)
