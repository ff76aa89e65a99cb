use Rattle.std.proofs.Common.{◌<◌, ◌+◌, sym, subst, ◌∙◌, arith}
use Rattle.std.specs.Prelude.{IsBitSet}
use Rattle.std.proofs.lemmas.Bool.{false≢true}
use Rattle.jm_machine.proofs.RuleLemmas.{moved_more, moved_same}
use Rattle.jm_machine.proofs.rules.moved.Goals as goal
use Rattle.jm_machine.proofs.rules.moved.Goals.{then-contains, else-contains}

pub loop-handler-preserved : goal.loop-handler-preserved
loop-handler-preserved c =
    let few : c.args.before + c.loop-handler.handler < 16 = omega (arith, c.loop-handler-test.true, c.requires) in
    elim c.if-contains.branch [
      | then-contains w ↦ rw w.all-is (moved_more c.args.before c.args.hits c.loop-handler.handler c.loop-handler.all few (subst (λ bits. IsBitSet bits c.loop-handler.handler) c.from.ensures (c.contains.ensures.0 w.if-contains.true)) c.loop-handler.invariant)
      | else-contains w ↦ rw w.all-is (moved_same c.args.before c.args.hits c.loop-handler.handler c.loop-handler.all (λ set. false≢true (sym w.if-contains.false ∙ c.contains.ensures.1 (subst (λ bits. IsBitSet bits c.loop-handler.handler) (sym c.from.ensures) set))) c.loop-handler.invariant)
    ]
