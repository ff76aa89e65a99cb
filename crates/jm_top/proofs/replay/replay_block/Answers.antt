use Rattle.std.proofs.Common.{ℕ, [], ◌∷◌, ◌++◌, refl, sym, ◌∙◌}
use Rattle.std.proofs.lemmas.List.Elements.{All-cons, All-nil}
use Rattle.jm_model.specs.declared.step.Step.{Step}
use Rattle.jm_core.specs.Steps.{IsFitStep}
use Rattle.jm_script.proofs.ProjectionLemmas.{skip_line, step_line}
use Rattle.jm_top.proofs.HistoryLemmas.{replayed_none, replayed_more, step_fits}
use Rattle.jm_top.proofs.replay.replay_block.Goals as goal
use Rattle.jm_top.proofs.replay.replay_block.Goals.{in-Some+in_ok-replay, in_default}

pub loop-place-init : goal.loop-place-init
loop-place-init g c = record { done = []; so_far = refl; replayed = replayed_none 0 c.args.prop.now; legal = c.history-history.ensures.legal }

pub replay-requires : goal.replay-requires
replay-requires g c =
    let done = c.loop-place.invariant.done in
    let grown = c.loop-place.invariant.replayed.grown in
    let step = c.in-Some.step in
    let so_far = step_line c.args.block.now c.loop-place.place 0 c.line-line.result done _ c.line-line.ensures c.loop-place.invariant.so_far step (sym c.in-Some.is ∙ c.step_for.ensures) in
    let P : ℕ × Step → Type 0 = λ s. IsFitStep (g.M.Monitor.meaning c.args.prop.now.definition) c.args.prop.now.objects s.1 in
    let fits = step_fits P done (c.line-line.result.line, step) _ _ so_far c.requires in
    rw (c.from_ref.ensures.value, grown.definition, grown.objects) (All-cons P (c.line-line.result.line, step) [] fits (All-nil P))

pub loop-place-preserved : goal.loop-place-preserved
loop-place-preserved g c =
    let done = c.loop-place.invariant.done in
    elim c.match-step_for.branch [
      | in-Some+in_ok-replay w ↦
          let step = w.in-Some.step in
          let one = (c.line-line.result.line, step) ∷ [] in
          record {
            done = done ++ one;
            so_far = step_line c.args.block.now c.loop-place.place 0 c.line-line.result done _ c.line-line.ensures c.loop-place.invariant.so_far step (sym w.in-Some.is ∙ c.step_for.ensures);
            replayed = rw w.prop-is (replayed_more 0 done one c.args.prop.now c.loop-place.prop w.replay.new.self c.loop-place.invariant.replayed (rw w.from_ref.ensures.value at w.in_ok-replay.ensures.ok));
            legal = rw w.prop-is w.in_ok-replay.ensures.legal;
          }
      | in_default w ↦ record {
        done = done;
        so_far = skip_line c.args.block.now c.loop-place.place 0 c.line-line.result done _ c.line-line.ensures c.loop-place.invariant.so_far (sym w.in_default.is ∙ c.step_for.ensures);
        replayed = rw w.prop-is c.loop-place.invariant.replayed;
        legal = rw w.prop-is c.loop-place.invariant.legal;
      }
    ]
