use Rattle.std.proofs.Common.{◌↔◌, rules}
use Rattle.std.specs.Prelude.{Any, IsTrue}
use Rattle.jm_earley.specs.Items.{IsWhole}
use Rattle.jm_earley.proofs.ChartLemmas.{last_place, words_by_items}
use Rattle.jm_earley.proofs.chart.Charts.matches.Goals as goal

pub returns : goal.returns
returns c = λ word of_word.
    let charts = c.args.self.now in
    let last = last_place charts word c.args.chart.now of_word c.last.result.now c.last.ensures.ends in
    let says : IsTrue c.any.result ↔ Any (IsWhole charts.grammar) c.as_slice-items.result.now = search rules in
    words_by_items charts.grammar word c.last.result.now.items c.as_slice-items.result.now c.any.result c.as_slice-items.ensures last.items says
