use Rattle.std.proofs.Common.{ℕ, ◌≡◌, ◌<◌, ◌+◌, List, [], ◌∷◌, ◌++◌, Some, length, slice_get, sym, subst, arith}
use Rattle.std.proofs.lemmas.Result.{IfOk-weaker}
use Rattle.jm_earley.specs.declared.item.Item.{Item}
use Rattle.jm_earley.specs.declared.earley_set.EarleySet.{EarleySet}
use Rattle.jm_grammar.specs.declared.grammar.GrammarSymbol.TheVariants.{Letter}
use Rattle.jm_earley.specs.Growth.{Grows, IsAdvancedOver, AreAdvancedOver}
use Rattle.jm_earley.specs.AwaitIndex.{AreWaiting}
use Rattle.jm_earley.specs.Charts.{ChartsDefinition, ChartDefinition, IsChartOf, IsChartWith}
use Rattle.jm_earley.proofs.KeptLemmas.{last_behind, number_at}
use Rattle.jm_earley.proofs.ChartLemmas.{grown_chart, lists_are, last_at}
use Rattle.jm_earley.proofs.chart.Charts.next.Goals as goal

pub chart_with-requires : goal.chart_with-requires
chart_with-requires c =
    let old : ChartDefinition = c.args.chart.now in
    let last = c.last-last.result.now in
    subst (λ (d : ChartDefinition). (number : ℕ) (p : EarleySet) → slice_get d.places number ≡ Some p → p.position < last.position + 1) (sym c.chart.view_is)
    (last_behind old.places c.last-last.ensures.sorted last c.last-last.ensures.ends)

pub returns : goal.returns
returns c = λ word of_word.
    let charts : ChartsDefinition = c.args.self.now in
    let old : ChartDefinition = c.args.chart.now in
    let last = c.last-last.result.now in
    let first = c.advance_over.new.set in
    let position : last.position ≡ length word =
    (number_at old.places (length word) last (last_at charts word old of_word c.args.letter last c.last-last.ensures.ends)).2 in
    let grows : Grows (IsAdvancedOver charts.grammar last.items (Letter c.args.letter)) c.new-first.result first =
    subst (λ (l : List Item). Grows (IsAdvancedOver charts.grammar l (Letter c.args.letter)) c.new-first.result first) c.as_slice.ensures c.in_ok-advance_over.ensures.grows in
    let all : AreAdvancedOver charts.grammar last.items (Letter c.args.letter) first =
    subst (λ (l : List Item). AreAdvancedOver charts.grammar l (Letter c.args.letter) first) c.as_slice.ensures c.in_ok-advance_over.ensures.all in
    let lists : AreWaiting charts.grammar c.chart.inside.places = subst (λ (d : ChartDefinition). AreWaiting charts.grammar d.places) (sym c.chart.view_is) (lists_are charts word old of_word) in
    IfOk-weaker c.chart_with.result (IsChartWith charts c.chart.inside.places (last.position + 1) first) (IsChartOf charts (word ++ c.args.letter.0 ∷ []))
    (λ (chart : ChartDefinition) (made : IsChartWith charts c.chart.inside.places (last.position + 1) first chart).
    grown_chart charts word old of_word c.args.letter last c.last-last.ensures.ends (last.position + 1) c.new-first.result first chart (omega (arith, position)) c.new-first.ensures grows all
    (subst (λ (d : ChartDefinition). IsChartWith charts d.places (last.position + 1) first chart) c.chart.view_is made))
    (c.chart_with.ensures lists)
