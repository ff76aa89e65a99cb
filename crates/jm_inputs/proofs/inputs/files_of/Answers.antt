use Rattle.jm_inputs.specs.Commands.{workload_specs, workload_scripts}
use Rattle.jm_inputs.proofs.inputs.files_of.Goals as goal

pub returns-in-Ok-clause-specs : goal.returns-in-Ok-clause-specs
unfolding workload_specs
returns-in-Ok-clause-specs c = c.in-Ok.ensures.specs

pub returns-in-Ok-clause-scripts : goal.returns-in-Ok-clause-scripts
unfolding workload_scripts
returns-in-Ok-clause-scripts c = c.in-Ok.ensures.scripts
