use Rattle.std.proofs.Common.{ℕ, [], ◌++◌, ap, subst, sym, ◌∙◌}
use Rattle.std.specs.Prelude.{All}
use Rattle.jm_model.specs.declared.step.Step.{Step}
use Rattle.jm_semantics.specs.Scripts.{projection_of}
use Rattle.jm_script.specs.Projections.{script_of}
use Rattle.jm_script.specs.Blocks.{steps_in}
use Rattle.jm_script.specs.Fitting.{FitsSpecification}
use Rattle.jm_script.proofs.CompactLemmas.{steps_both}
use Rattle.jm_script.proofs.FittingLemmas.{projection_fits}
use Rattle.jm_script.proofs.compact.CompactScript.steps.Goals as goal

pub returns-clause-value : goal.returns-clause-value
returns-clause-value c =
    let first = c.in_ok-add_steps.ensures ∙ ap (λ steps. steps ++ steps_in c.args.spec c.as_slice.result.now) c.in_ok-steps.ensures.items ∙ ap (λ full. [] ++ steps_in c.args.spec full) c.as_slice.ensures.value in
    steps_both c.args.spec c.self.inside.full.items c.self.inside.last _ _ first c.in_ok-add_steps-2.ensures.ok
    ∙ ap (λ ls. projection_of (script_of ls) c.args.spec) c.self.view_is

pub returns-clause-fitting : goal.returns-clause-fitting
returns-clause-fitting c = λ catalog names h.
    subst (All (λ (s : ℕ × Step). FitsSpecification catalog names c.args.spec s.1)) (sym (returns-clause-value c)) (projection_fits catalog names c.args.spec c.args.self.now h)
