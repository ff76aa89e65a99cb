use Rattle.jm_semantics.proofs.ReplyLemmas.{outcome_is_pinned-lem}
use Rattle.jm_semantics.proofs.laws.outcome_is_pinned.Goals as goal

pub returns : goal.returns
returns g c = λ d. outcome_is_pinned-lem (g.M.Monitor.meaning d)
