use Rattle.std.proofs.Common.{◌<◌, [], Some, length, sym, ◌∙◌, ap, arith}
use Rattle.std.proofs.lemmas.List.Elements.{All-nil, All-push}
use Rattle.std.proofs.lemmas.Option.{slice_get-get_or}
use Rattle.jm_earley.specs.Charts.{ChartDefinition}
use Rattle.jm_machine.proofs.grammar_liveness.GrammarLiveness.first.Goals as goal

pub returns : goal.returns
returns c =
    let each = rw (← c.self.view_is) at c.requires.firsts.each in
    let less : c.args.letter.0 < length c.args.charts.now.params = omega (arith, c.requires.letter, c.requires.firsts.count) in
    let within = rw (← c.self.view_is) at c.requires.letter in
    let there = slice_get-get_or c.self.inside.firsts.items c.args.letter.0 c.index.result.now within ∙ ap (λ (x : ChartDefinition). Some x) (sym c.index.ensures) in
    rw c.in_ok-chart.ensures
    (All-push (λ x. x < length c.args.charts.now.params) [] c.args.letter.0 (All-nil (λ x. x < length c.args.charts.now.params)) less, each c.args.letter.0 c.index.result.now there)
