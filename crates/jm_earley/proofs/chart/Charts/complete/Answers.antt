use Rattle.std.proofs.Common.{List, subst, sym}
use Rattle.std.proofs.lemmas.Result.{on_ok_weaker}
use Rattle.jm_grammar.specs.declared.grammar.GrammarSymbol.TheVariants.{Nonterminal}
use Rattle.jm_earley.specs.declared.item.Item.{Item}
use Rattle.jm_earley.specs.Growth.{Grows, IsAdvancedOver, AreAdvancedOver}
use Rattle.jm_earley.proofs.AwaitIndexLemmas.{completes_over, completes_worked}
use Rattle.jm_earley.proofs.chart.Charts.complete.Goals as goal

pub returns-clause-grows : goal.returns-clause-grows
returns-clause-grows c = λ place.
    let g = c.args.self.now.grammar in
    let n = c.in-Some.left in
    on_ok_weaker c.advance_over.result
    (λ grows. completes_over g c.args.kept.now place c.args.item n c.in-Some-find.from.now (sym c.in-Some.ensures) c.in-Some-find.ensures c.args.set.now c.advance_over.new.set
    (subst (λ (l : List Item). Grows (IsAdvancedOver g l (Nonterminal n)) c.args.set.now c.advance_over.new.set) c.of.ensures grows))
    c.advance_over.ensures.grows

pub returns-clause-worked : goal.returns-clause-worked
returns-clause-worked c = λ place.
    let g = c.args.self.now.grammar in
    let n = c.in-Some.left in
    on_ok_weaker c.advance_over.result
    (λ all. completes_worked g c.args.kept.now place c.args.item n c.in-Some-find.from.now (sym c.in-Some.ensures) c.in-Some-find.ensures c.args.set.now c.advance_over.new.set
    c.requires (subst (λ (l : List Item). AreAdvancedOver g l (Nonterminal n) c.advance_over.new.set) c.of.ensures all))
    c.advance_over.ensures.all
