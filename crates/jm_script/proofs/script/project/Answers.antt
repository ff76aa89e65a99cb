use Rattle.jm_script.proofs.FittingLemmas.{made_fits}
use Rattle.jm_script.proofs.script.project.Goals as goal

pub returns-clause-fitting : goal.returns-clause-fitting
returns-clause-fitting c = λ catalog names h. made_fits (λ steps. steps.items) catalog names c.args.spec _ _ c.lines.ensures.value c.project_lines.result c.project_lines.ensures h
