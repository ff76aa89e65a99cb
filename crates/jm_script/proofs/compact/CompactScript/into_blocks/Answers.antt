use Rattle.std.proofs.Common.{ℕ, ap, subst, sym, ◌∙◌}
use Rattle.std.specs.Prelude.{All}
use Rattle.jm_model.specs.declared.step.Step.{Step}
use Rattle.jm_semantics.specs.Scripts.{projection_of}
use Rattle.jm_script.specs.Projections.{script_of}
use Rattle.jm_script.specs.Fitting.{FitsSpecification}
use Rattle.jm_script.proofs.CompactLemmas.{steps_pushed}
use Rattle.jm_script.proofs.FittingLemmas.{projection_fits}
use Rattle.jm_script.proofs.compact.CompactScript.into_blocks.Goals as goal

pub returns-clause-value : goal.returns-clause-value
returns-clause-value c = λ spec.
    steps_pushed spec c.self.inside.full.items _ c.self.inside.last c.in_ok-push.ensures.items
    ∙ ap (λ ls. projection_of (script_of ls) spec) c.self.view_is

pub returns-clause-fitting : goal.returns-clause-fitting
returns-clause-fitting c = λ catalog names spec h.
    subst (All (λ (s : ℕ × Step). FitsSpecification catalog names spec s.1)) (sym (returns-clause-value c spec)) (projection_fits catalog names spec c.args.self h)
