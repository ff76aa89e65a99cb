use Rattle.std.proofs.Common.{[], refl, sym, ◌∙◌, subst, append-nil}
use mathlib.Core.List.{IsPrefix}
use Rattle.jm_script.proofs.ProjectionLemmas.{skip_line, step_line, prefix_more, on_err}
use Rattle.jm_script.proofs.block.Block.add_steps.Goals as goal

pub loop-place-init : goal.loop-place-init
loop-place-init c = record { so_far = refl; kept = ([], append-nil c.args.steps.now.items) }

pub loop-place-preserved-in_default : goal.loop-place-preserved-in_default
loop-place-preserved-in_default c = record {
  so_far = skip_line c.args.self.now c.loop-place.place c.args.spec c.line-line.result _ _ c.line-line.ensures c.loop-place.invariant.so_far (sym c.in_default.is ∙ c.step_for.ensures);
  kept = c.loop-place.invariant.kept;
}

pub loop-place-preserved : goal.loop-place-preserved
loop-place-preserved c = record {
  so_far = rw c.in_ok-push.ensures.items (step_line c.args.self.now c.loop-place.place c.args.spec c.line-line.result _ _ c.line-line.ensures c.loop-place.invariant.so_far c.in-Some.step (sym c.in-Some.is ∙ c.step_for.ensures));
  kept = prefix_more _ _ _ _ c.loop-place.invariant.kept c.in_ok-push.ensures.items;
}

pub returns-in_err-push-clause-err : goal.returns-in_err-push-clause-err
returns-in_err-push-clause-err c =
    on_err c.from_residual.result (subst (IsPrefix c.args.steps.now.items) (sym c.in_err-push.ensures.items) c.loop-place.invariant.kept)
