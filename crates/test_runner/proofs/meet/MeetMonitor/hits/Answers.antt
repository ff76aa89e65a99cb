use Rattle.std.proofs.Common.{sym, ◌∙◌}
use Rattle.test_runner.proofs.MeetLemmas.{hits_moved}
use Rattle.test_runner.proofs.meet.MeetMonitor.hits.Goals as goal

pub returns : goal.returns
returns c = λ w stands k. hits_moved w k (sym stands ∙ c.if-not-state.false)
