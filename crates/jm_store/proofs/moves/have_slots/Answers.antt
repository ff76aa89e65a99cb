use Rattle.std.proofs.Common.{List, ◌∙◌, subst, sym, ap}
use Rattle.std.specs.Option.{is_some}
use Rattle.std.proofs.lemmas.Bool.{false≢true}
use Rattle.std.proofs.lemmas.List.{take_all}
use Rattle.jm_store.specs.declared.moves.Move.{Move}
use Rattle.jm_store.proofs.RestLemmas.{AllSlotted, all_slotted_more}
use Rattle.jm_store.proofs.moves.have_slots.Goals as goal

pub loop-step-preserved : goal.loop-step-preserved
loop-step-preserved g c = all_slotted_more _ c.loop-step.step-index c.step-item.result c.loop-step-test.true c.step-item.is c.loop-step.invariant (λ e. false≢true (sym (ap is_some e) ∙ c.if-is_none.ensures))

pub returns : goal.returns
returns g c = λ t.
    subst (λ (l : List (Move g.row.S.Denot)). AllSlotted l) (take_all c.loop-step.step-index c.args.moves.now c.loop-step-test.false) c.loop-step.invariant
