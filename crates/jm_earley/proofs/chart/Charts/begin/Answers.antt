use Rattle.std.proofs.Common.{ap, subst, sym, ◌∙◌, List}
use Rattle.std.proofs.lemmas.Option.{none-some}
use Rattle.jm_earley.specs.declared.earley_set.EarleySet.{EarleySet}
use Rattle.jm_earley.specs.AwaitIndex.{AreWaiting}
use Rattle.jm_earley.specs.Charts.{ChartsDefinition}
use Rattle.jm_earley.proofs.ChartLemmas.{begun_chart}
use Rattle.jm_earley.proofs.chart.Charts.begin.Goals as goal

pub returns : goal.returns
returns c =
    let charts : ChartsDefinition = c.args.self.now in
    let earlier : List EarleySet = c.new-earlier.result in
    let lists : AreWaiting charts.grammar earlier = subst (λ (l : List EarleySet). AreWaiting charts.grammar l) (sym c.new-earlier.ensures) (λ position p at. absurd (none-some p at)) in
    begun_chart charts c.start.result earlier c.new-first.result c.begin_productions.new.set c.in_ok-chart.chart
    (c.start.ensures.value ∙ ap (λ (d : ChartsDefinition). d.grammar.start) c.self.view_is) c.new-earlier.ensures c.new-first.ensures
    c.in_ok-begin_productions.ensures.grows c.in_ok-begin_productions.ensures.all (c.in_ok-chart.ensures lists)
