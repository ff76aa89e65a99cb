use Rattle.std.proofs.Common.{ℕ, ◌↔◌, IsTrue, sym, subst}
use Rattle.jm_grammar.specs.Categories.{GrammarHolds}
use Rattle.jm_machine.proofs.grammar_liveness.category_holds.Goals as goal

pub returns-in-1 : goal.returns-in-1
returns-in-1 c = λ word of_word.
    subst (λ (k : ℕ). IsTrue c.fails.result ↔ GrammarHolds c.args.charts.now.grammar k word) (sym c.in-1.is) (c.fails.ensures word of_word)
