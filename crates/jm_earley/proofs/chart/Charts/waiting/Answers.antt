use Rattle.std.proofs.Common.{List, [], ap, sym, ◌∙◌, ◌+◌, slice_index_or, ◌≡◌, Some, take, slice_get, get_or, subst}
use Rattle.std.proofs.lemmas.List.{take_all}
use Rattle.std.proofs.lemmas.Option.{none-some, slice_get-get_or}
use Rattle.jm_grammar.specs.declared.grammar.GrammarSymbol.{GrammarSymbol}
use Rattle.jm_grammar.specs.declared.grammar.GrammarSymbol.TheVariants.{Nonterminal}
use Rattle.jm_earley.specs.declared.item.Item.{Item}
use Rattle.jm_earley.specs.AwaitIndex.{IsWaiting}
use Rattle.jm_earley.proofs.AwaitIndexLemmas.{waiting_none, waiting_same, waiting_more, waiting_next, not_a_letter}
use Rattle.jm_earley.proofs.chart.Charts.waiting.Goals as goal
use Rattle.jm_earley.proofs.chart.Charts.waiting.Goals.{in-Some-Nonterminal+in_ok-add-in-Some-Nonterminal, in-Some-Letter, in-None}

pub loop-item-init : goal.loop-item-init
loop-item-init c = waiting_none c.args.self.now.grammar c.new-waiting.result (λ n. ap (λ (l : List (List Item)). slice_index_or l n []) c.new-waiting.ensures)

pub loop-item-preserved : goal.loop-item-preserved
loop-item-preserved c =
    let g = c.args.self.now.grammar in
    let items = c.args.items.now in
    let i = c.loop-item.item-index in
    let old = c.loop-item.waiting in
    let x : Item = get_or items i (record { production = 0; dot = 0; origin = 0 }) in
    let at : slice_get items i ≡ Some x = slice_get-get_or items i (record { production = 0; dot = 0; origin = 0 }) c.loop-item-test.true in
    let Next = λ (lists : List (List Item)). IsWaiting g (take (i + 1) items) lists in
    elim c.match-symbol_after.branch [
      | in-Some-Nonterminal+in_ok-add-in-Some-Nonterminal w ↦
          let n = w.in-Some-Nonterminal.n in
          let after = sym c.symbol_after.ensures.value ∙ w.in-Some-Nonterminal.is ∙ ap (λ (s : GrammarSymbol). Some s) w.in-Some-Nonterminal.field-0-is in
          let new = w.add.new.self in
          subst Next (sym w.waiting-is) (waiting_next g items old new i x at c.loop-item.invariant
          (waiting_more g old new x n after w.in_ok-add-in-Some-Nonterminal.ensures.at_key w.in_ok-add-in-Some-Nonterminal.ensures.others))
      | in-Some-Letter w ↦
          let after = sym c.symbol_after.ensures.value ∙ w.in-Some-Letter.is ∙ ap (λ (s : GrammarSymbol). Some s) w.in-Some-Letter.field-0-is in
          subst Next (sym w.waiting-is) (waiting_next g items old old i x at c.loop-item.invariant (waiting_same g old x (λ n other. not_a_letter g x w.in-Some-Letter.field-0-0 n after other)))
      | in-None w ↦
          subst Next (sym w.waiting-is) (waiting_next g items old old i x at c.loop-item.invariant (waiting_same g old x (λ n other. none-some (Nonterminal n) (sym w.in-None.is ∙ c.symbol_after.ensures.value ∙ other))))
    ]

pub returns : goal.returns
returns c =
    subst (λ (l : List Item). IsWaiting c.args.self.now.grammar l c.loop-item.waiting) (take_all c.loop-item.item-index c.args.items.now c.loop-item-test.false) c.loop-item.invariant
