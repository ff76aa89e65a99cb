use Rattle.jm_telling.proofs.JobNames.{job_names}
use Rattle.jm_telling.proofs.laws.inputs_have_names.Goals as goal

pub returns : goal.returns
returns c = job_names
