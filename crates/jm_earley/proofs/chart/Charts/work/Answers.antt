use Rattle.std.proofs.Common.{ℕ, ◌≡◌, List, Some, refl, sym, ap, subst, ◌∙◌}
use Rattle.std.proofs.lemmas.Bool.{false≢true}
use Rattle.std.proofs.lemmas.Result.{on_ok_weaker}
use Rattle.jm_grammar.specs.declared.grammar.GrammarSymbol.{GrammarSymbol}
use Rattle.jm_grammar.specs.declared.grammar.GrammarSymbol.TheVariants.{Nonterminal}
use Rattle.jm_grammar.specs.Grammars.{GrammarDefinition}
use Rattle.jm_earley.specs.declared.item.Item.{Item}
use Rattle.jm_earley.specs.declared.earley_set.EarleySet.{EarleySet}
use Rattle.jm_earley.specs.Items.{symbol_after, advanced}
use Rattle.jm_earley.specs.Growth.{Grows, IsWithItem, IsPrediction, IsStep}
use Rattle.jm_earley.specs.AwaitIndex.{IsStepOver}
use Rattle.jm_earley.proofs.GrowthLemmas.{grows_same, grows_with_item, grows_weaker, item_is_there}
use Rattle.jm_earley.proofs.WorkLemmas.{IsSkip, nonterminal_grows, nonterminal_worked, letter_worked, predicted_set_grows}
use Rattle.jm_earley.proofs.chart.Charts.work.Goals as goal
use Rattle.jm_earley.proofs.chart.Charts.work.Goals.{In_ok-add-in-Some-Nonterminal, Else-is_nullable}

-- ---- an item that awaits a nonterminal

steps_over : (g : GrammarDefinition) (kept : List EarleySet) (place : ℕ) (item : Item) (n : ℕ) (a b d : List Item)
    → symbol_after g item ≡ Some (Nonterminal n) → Grows (IsPrediction g place n) a b → Grows (IsSkip g item n) b d → Grows (IsStepOver g kept place item) a d
steps_over g kept place item n a b d after first second =
    grows_weaker (λ (x : Item). IsStep g kept place item x) (λ (x : Item). IsStepOver g kept place item x) (λ x step waiting. step) a d
    (nonterminal_grows g kept place item n a b d after first second)

added : (c : In_ok-add-in-Some-Nonterminal) → IsWithItem c.predict.new.growth.set (advanced c.args.item) c.add.new.self
added c = subst (λ (x : Item). IsWithItem c.predict.new.growth.set x c.add.new.self) c.advanced.ensures c.in_ok-add-in-Some-Nonterminal.ensures

skips_over : (c : In_ok-add-in-Some-Nonterminal) → Grows (IsSkip c.args.self.now.grammar c.args.item c.in-Some-Nonterminal.n) c.predict.new.growth.set c.add.new.self
skips_over c =
    grows_with_item (IsSkip c.args.self.now.grammar c.args.item c.in-Some-Nonterminal.n) c.predict.new.growth.set c.add.new.self (advanced c.args.item) (added c)
    (c.is_nullable.ensures.0 c.if-is_nullable.true, refl)

pub returns-in_ok-add-in-Some-Nonterminal-clause-grows : goal.returns-in_ok-add-in-Some-Nonterminal-clause-grows
returns-in_ok-add-in-Some-Nonterminal-clause-grows c =
    steps_over c.args.self.now.grammar c.args.kept.now c.args.place c.args.item c.in-Some-Nonterminal.n c.args.growth.now.set c.predict.new.growth.set c.add.new.self
    (sym c.symbol_after.ensures.value ∙ c.in-Some-Nonterminal.is ∙ ap (λ (s : GrammarSymbol). Some s) c.in-Some-Nonterminal.field-0-is)
    c.in_ok-predict-in-Some-Nonterminal.ensures.grows (skips_over c)

pub returns-in_ok-add-in-Some-Nonterminal-clause-worked : goal.returns-in_ok-add-in-Some-Nonterminal-clause-worked
returns-in_ok-add-in-Some-Nonterminal-clause-worked c = λ waiting.
    nonterminal_worked c.args.self.now.grammar c.args.kept.now c.args.place c.args.item c.in-Some-Nonterminal.n c.predict.new.growth.set c.add.new.self
    (sym c.symbol_after.ensures.value ∙ c.in-Some-Nonterminal.is ∙ ap (λ (s : GrammarSymbol). Some s) c.in-Some-Nonterminal.field-0-is)
    c.in_ok-predict-in-Some-Nonterminal.ensures.all (skips_over c) (λ empty. item_is_there c.predict.new.growth.set c.add.new.self (advanced c.args.item) (added c))

pub returns-in_ok-add-in-Some-Nonterminal-clause-predicted : goal.returns-in_ok-add-in-Some-Nonterminal-clause-predicted
returns-in_ok-add-in-Some-Nonterminal-clause-predicted c =
    let g = c.args.self.now.grammar in
    predicted_set_grows g (IsSkip g c.args.item c.in-Some-Nonterminal.n) c.args.place c.predict.new.growth.predicted c.predict.new.growth.set c.add.new.self (skips_over c)
    c.in_ok-predict-in-Some-Nonterminal.ensures.predicted

pub returns-else-is_nullable-clause-grows : goal.returns-else-is_nullable-clause-grows
returns-else-is_nullable-clause-grows c =
    let g = c.args.self.now.grammar in
    let n = c.in-Some-Nonterminal.n in
    let set = c.predict.new.growth.set in
    steps_over g c.args.kept.now c.args.place c.args.item n c.args.growth.now.set set set
    (sym c.symbol_after.ensures.value ∙ c.in-Some-Nonterminal.is ∙ ap (λ (s : GrammarSymbol). Some s) c.in-Some-Nonterminal.field-0-is)
    c.in_ok-predict-in-Some-Nonterminal.ensures.grows (grows_same (IsSkip g c.args.item n) set)

pub returns-else-is_nullable-clause-worked : goal.returns-else-is_nullable-clause-worked
returns-else-is_nullable-clause-worked c = λ waiting.
    let g = c.args.self.now.grammar in
    let n = c.in-Some-Nonterminal.n in
    let set = c.predict.new.growth.set in
    nonterminal_worked g c.args.kept.now c.args.place c.args.item n set set
    (sym c.symbol_after.ensures.value ∙ c.in-Some-Nonterminal.is ∙ ap (λ (s : GrammarSymbol). Some s) c.in-Some-Nonterminal.field-0-is)
    c.in_ok-predict-in-Some-Nonterminal.ensures.all (grows_same (IsSkip g c.args.item n) set)
    (λ empty. absurd (false≢true (sym c.if-is_nullable.false ∙ c.is_nullable.ensures.1 empty)))

pub returns-in-Some-Letter-clause-worked : goal.returns-in-Some-Letter-clause-worked
returns-in-Some-Letter-clause-worked c = λ waiting. letter_worked c.args.self.now.grammar c.args.kept.now c.args.place c.args.item c.in-Some-Letter.field-0-0 c.args.growth.now.set
    (sym c.symbol_after.ensures.value ∙ c.in-Some-Letter.is ∙ ap (λ (s : GrammarSymbol). Some s) c.in-Some-Letter.field-0-is)

pub returns-in-None-clause-grows : goal.returns-in-None-clause-grows
returns-in-None-clause-grows c = c.complete.ensures.grows c.args.place

pub returns-in-None-clause-worked : goal.returns-in-None-clause-worked
returns-in-None-clause-worked c = c.complete.ensures.worked c.args.place

pub returns-in-None-clause-predicted : goal.returns-in-None-clause-predicted
returns-in-None-clause-predicted c =
    let g = c.args.self.now.grammar in
    on_ok_weaker c.complete.result
    (λ grows. predicted_set_grows g (λ (x : Item). IsStepOver g c.args.kept.now c.args.place c.args.item x) c.args.place c.args.growth.now.predicted c.args.growth.now.set c.complete.new.set grows c.requires)
    (c.complete.ensures.grows c.args.place)
