use Rattle.jm_telling.proofs.AuditLemmas.{run_answered}
use Rattle.jm_telling.proofs.laws.what_run_wrote_is_answered_yes.Goals as goal

pub returns : goal.returns
returns c = run_answered
