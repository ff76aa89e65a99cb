use Rattle.std.proofs.Common.{◌↔◌, IsTrue, sym, subst}
use Rattle.jm_earley.specs.EarleySets.{IsAliveFor}
use Rattle.jm_earley.specs.Charts.{ChartsDefinition, ChartDefinition, IsChartOf}
use Rattle.jm_earley.proofs.ChartLemmas.{last_place}
use Rattle.jm_earley.proofs.chart.Charts.alive.Goals as goal

pub returns : goal.returns
returns c = λ word of_word.
    let inside : ChartsDefinition = record { grammar = c.self.inside.grammar; params = c.self.inside.params.items; letter_sets = c.self.inside.dead.sets.items } in
    let old : ChartDefinition = c.args.chart.now in
    let of_inside : IsChartOf inside word old = subst (λ (d : ChartsDefinition). IsChartOf d word old) (sym c.self.view_is) of_word in
    let follows = (last_place inside word old of_inside c.last.result.now c.last.ensures.ends).futures in
    subst (λ (d : ChartsDefinition). IsTrue c.is_alive.result ↔ IsAliveFor d.grammar d.params c.args.dead word) c.self.view_is
    (c.is_alive.ensures inside.grammar inside.params word c.self.invariant.1 follows)
