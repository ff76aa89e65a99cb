use Rattle.std.proofs.Common.{◌≡◌, ℕ, length, Some, slice_get, refl, sym, ◌∙◌, subst}
use Rattle.std.specs.Prelude.{All}
use Rattle.std.proofs.lemmas.Option.{slice_get_read}
use Rattle.std.proofs.lemmas.Iterator.Adapters.{YieldsList-from_vec}
use Rattle.std.proofs.lemmas.Iterator.Consumers.{YieldsList-turn, YieldsList-end}
use Rattle.jm_model.specs.declared.step.Step.{Step}
use Rattle.jm_core.specs.Steps.{IsFitStep}
use Rattle.jm_core.specs.Replays.{Replayed}
use Rattle.jm_semantics.specs.Scripts.{projection_of}
use Rattle.jm_script.specs.Projections.{script_of}
use Rattle.jm_script.specs.Blocks.{steps_in}
use Rattle.jm_top.proofs.HistoryLemmas.{replay_of, replayed_none, replayed_more, steps_of_block, steps_in-more, map_same}
use Rattle.jm_top.proofs.replay.core_after.Goals as goal

pub replay_block-requires : goal.replay_block-requires
replay_block-requires g c =
    let blocks = c.args.blocks.items in
    let done = c.loop-block.invariant.done in
    let b = c.into_iter-block-iterator.ensures.into_iter_gives in
    let t = YieldsList-turn (YieldsList-from_vec {s = c.into_iter-block-iterator.result} blocks b.0 (b.1 ∙ c.args.blocks.ok.0)) c.loop-block.yielded c.loop-block.block-iterator c.loop-block.yielded_by c.next.result c.next.new.self c.in-Some.block c.in-Some.is c.next.ensures.steps in
    let at : slice_get blocks (length c.loop-block.yielded) ≡ Some c.in-Some.block = slice_get_read blocks (length blocks) (length c.loop-block.yielded) c.in-Some.block refl t.0 t.1 in
    let fits = steps_of_block (λ (step : ℕ × Step). IsFitStep (g.M.Monitor.meaning (g.M.Monitor.definition c.args.rules)) c.args.objects step.1) blocks (length c.loop-block.yielded) c.in-Some.block at c.requires in
    let own = projection_of (script_of c.in-Some.block) 0 in
    subst (λ d. All (λ (step : ℕ × Step). IsFitStep (g.M.Monitor.meaning d) c.loop-block.prop.objects step.1) own) (sym (done.grown.definition ∙ c.in_ok-prop.ensures.definition))
    (subst (λ n. All (λ (step : ℕ × Step). IsFitStep (g.M.Monitor.meaning (g.M.Monitor.definition c.args.rules)) n step.1) own) (sym (done.grown.objects ∙ c.in_ok-prop.ensures.objects)) fits)

pub loop-block-init : goal.loop-block-init
loop-block-init g c = record { legal = c.in_ok-prop.ensures.legal; done = replayed_none 0 c.in_ok-prop.prop }

pub loop-block-preserved : goal.loop-block-preserved
loop-block-preserved g c =
    let own = projection_of (script_of c.in-Some.block) 0 in
    record {
      legal = c.in_ok-replay_block.ensures.legal;
      done = subst (λ steps. Replayed 0 steps c.in_ok-prop.prop c.replay_block.new.prop) (sym (steps_in-more c.loop-block.yielded c.in-Some.block))
          (replayed_more 0 (steps_in 0 c.loop-block.yielded) own c.in_ok-prop.prop c.loop-block.prop c.replay_block.new.prop c.loop-block.invariant.done c.in_ok-replay_block.ensures.replayed);
    }

pub returns-clause-definition : goal.returns-clause-definition
returns-clause-definition g c = c.loop-block.invariant.done.grown.definition ∙ c.in_ok-prop.ensures.definition

pub returns-clause-replayed : goal.returns-clause-replayed
returns-clause-replayed g c =
    let blocks = c.args.blocks.items in
    let after = c.loop-block.prop in
    let b = c.into_iter-block-iterator.ensures.into_iter_gives in
    let t = YieldsList-end (YieldsList-from_vec {s = c.into_iter-block-iterator.result} blocks b.0 (b.1 ∙ c.args.blocks.ok.0)) c.loop-block.yielded c.loop-block.block-iterator c.loop-block.yielded_by c.next.result c.next.new.self c.in-None.is c.next.ensures.steps in
    let all : c.loop-block.yielded ≡ blocks = sym (map_same c.loop-block.yielded) ∙ t.0 in
    replay_of g.M.Monitor.meaning (g.M.Monitor.definition c.args.rules) (steps_in 0 blocks) c.in_ok-prop.prop after after.entries c.in_ok-prop.ensures.definition c.in_ok-prop.ensures.entries
    (subst (λ bs. Replayed 0 (steps_in 0 bs) c.in_ok-prop.prop after) all c.loop-block.invariant.done) c.loop-block.invariant.legal refl
