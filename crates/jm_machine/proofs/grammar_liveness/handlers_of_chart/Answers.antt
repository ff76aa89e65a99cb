use Rattle.std.proofs.Common.{sym, ◌∙◌, arith}
use Rattle.std.proofs.lemmas.Bool.{false≢true}
use Rattle.std.proofs.lemmas.List.{take_all}
use Rattle.jm_grammar.specs.Categories.{GrammarHolds}
use Rattle.jm_machine.proofs.GoalLemmas.{hits_more, hits_same}
use Rattle.jm_machine.proofs.grammar_liveness.handlers_of_chart.Goals as goal
use Rattle.jm_machine.proofs.grammar_liveness.handlers_of_chart.Goals.{then-category_holds, else-category_holds}

pub loop-handler-preserved : goal.loop-handler-preserved
loop-handler-preserved c = λ word place k.
    elim c.if-category_holds.branch [
      | then-category_holds w ↦ rw w.hits-is
          (hits_more c.args.goal.now.groups (λ group. GrammarHolds c.args.charts.now.grammar group word) c.loop-handler.hits c.loop-handler.handler c.group.result c.group.ensures
          (omega (arith, c.loop-handler-test.true, c.handlers-handler-end.ensures.bounded)) ((c.category_holds.ensures word place).0 w.if-category_holds.true) (c.loop-handler.invariant word place) k)
      | else-category_holds w ↦ rw w.hits-is
          (hits_same c.args.goal.now.groups (λ group. GrammarHolds c.args.charts.now.grammar group word) c.loop-handler.hits c.loop-handler.handler c.group.result c.group.ensures
          (λ holds. false≢true (sym w.if-category_holds.false ∙ (c.category_holds.ensures word place).1 holds)) (c.loop-handler.invariant word place) k)
    ]

pub returns : goal.returns
returns c = λ word place k.
    rw (take_all c.loop-handler.handler c.args.goal.now.groups (omega (arith, c.loop-handler-test.false, c.handlers-handler-end.ensures.value))) at (c.loop-handler.invariant word place k)
