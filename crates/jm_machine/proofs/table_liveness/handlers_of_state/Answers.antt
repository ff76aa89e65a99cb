use Rattle.std.proofs.Common.{sym, ◌∙◌, arith}
use Rattle.std.proofs.lemmas.Bool.{false≢true}
use Rattle.std.proofs.lemmas.List.{take_all}
use Rattle.jm_machine.specs.declared.engine.Engine.TheVariants.{States}
use Rattle.jm_machine.specs.Engines.{EngineHolds}
use Rattle.jm_machine.proofs.GoalLemmas.{hits_more, hits_same}
use Rattle.jm_machine.proofs.table_liveness.handlers_of_state.Goals as goal
use Rattle.jm_machine.proofs.table_liveness.handlers_of_state.Goals.{then-is_in_group, else-is_in_group}

pub loop-handler-preserved : goal.loop-handler-preserved
loop-handler-preserved c = λ word place k.
    elim c.if-is_in_group.branch [
      | then-is_in_group w ↦ rw w.hits-is
          (hits_more c.args.goal.now.groups (λ group. EngineHolds (States c.args.table.now) group word) c.loop-handler.hits c.loop-handler.handler c.group.result c.group.ensures
          (omega (arith, c.loop-handler-test.true, c.handlers-handler-end.ensures.bounded)) ((c.is_in_group.ensures word place).0 w.if-is_in_group.true) (c.loop-handler.invariant word place) k)
      | else-is_in_group w ↦ rw w.hits-is
          (hits_same c.args.goal.now.groups (λ group. EngineHolds (States c.args.table.now) group word) c.loop-handler.hits c.loop-handler.handler c.group.result c.group.ensures
          (λ holds. false≢true (sym w.if-is_in_group.false ∙ (c.is_in_group.ensures word place).1 holds)) (c.loop-handler.invariant word place) k)
    ]

pub returns : goal.returns
returns c = λ word place k.
    rw (take_all c.loop-handler.handler c.args.goal.now.groups (omega (arith, c.loop-handler-test.false, c.handlers-handler-end.ensures.value))) at (c.loop-handler.invariant word place k)
