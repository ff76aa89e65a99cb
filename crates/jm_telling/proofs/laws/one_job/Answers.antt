use Rattle.jm_telling.proofs.OneJob as jobs
use Rattle.jm_telling.proofs.laws.one_job.Goals as goal

pub returns : goal.returns
returns c = jobs.one_job
