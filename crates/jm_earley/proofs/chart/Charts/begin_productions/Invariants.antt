use Rattle.std.proofs.Common.{ℕ, ◌<◌, ◌≡◌, Some, slice_get, Contains}
use Rattle.jm_grammar.specs.declared.grammar.Production.{Production}
use Rattle.jm_earley.specs.Growth.{Grows, IsPrediction}
use Rattle.jm_earley.proofs.chart.Charts.begin_productions.Given as goal

abbrev pub invariant-loop-number : goal.invariant-loop-number
invariant-loop-number l = record {
  grows : Grows (IsPrediction l.self.grammar l.place l.n) l.initial.set l.set;
  all : (k : ℕ) (p : Production) → k < l.number → slice_get l.self.grammar.productions k ≡ Some p → p.left ≡ l.n
      → Contains l.set (record { production = k; dot = 0; origin = l.place });
}
