use Rattle.jm_semantics.proofs.OrderLemmas.{answer_is_determined-lem}
use Rattle.jm_semantics.proofs.laws.answer_is_determined.Goals as goal

pub returns : goal.returns
returns g c = λ d. answer_is_determined-lem (g.M.Monitor.meaning d)
