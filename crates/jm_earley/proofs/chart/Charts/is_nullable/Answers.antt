use Rattle.std.proofs.Common.{sym, ◌∙◌}
use Rattle.jm_earley.proofs.SetLemmas.{bit_of_nullable}
use Rattle.jm_earley.proofs.chart.Charts.is_nullable.Goals as goal

pub returns : goal.returns
returns c =
    let spells = bit_of_nullable c.self.inside.grammar.productions c.self.inside.nullable c.self.invariant.0.empty c.args.n in
    rw (← c.self.view_is) (λ h. spells.0 (sym c.contains.ensures ∙ h), λ d. c.contains.ensures ∙ spells.1 d)
