use Rattle.std.proofs.Common.{ℕ, List, sym, subst}
use Rattle.jm_grammar.specs.Meanings.{IsIn, DerivesSome}
use Rattle.jm_earley.specs.declared.item.Item.{Item}
use Rattle.jm_earley.specs.Items.{IsItemSet}
use Rattle.jm_earley.specs.Charts.{ChartsDefinition}
use Rattle.jm_earley.proofs.ChartLemmas.{last_place}
use Rattle.jm_earley.proofs.HopelessLemmas.{hopeless_by}
use Rattle.jm_earley.proofs.chart.Charts.fails.Goals as goal

pub returns : goal.returns
returns c = λ word of_word.
    let charts : ChartsDefinition = c.args.self.now in
    let last = last_place charts word c.args.chart.now of_word c.last.result.now c.last.ensures.ends in
    let reduced : (n : ℕ) → IsIn charts.grammar.productions n → DerivesSome charts.grammar.productions n =
    subst (λ (d : ChartsDefinition). (n : ℕ) → IsIn d.grammar.productions n → DerivesSome d.grammar.productions n) c.self.view_is c.self.invariant.0.spell in
    let all = subst (λ (items : List Item). IsItemSet charts.grammar word items) (sym c.as_slice.ensures) last.items in
    hopeless_by charts.grammar reduced c.is_empty.result word c.as_slice.result.now all c.is_empty.ensures
