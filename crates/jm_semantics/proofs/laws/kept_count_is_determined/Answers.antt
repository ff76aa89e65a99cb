use Rattle.jm_semantics.proofs.OrderLemmas.{kept_count_is_determined-lem}
use Rattle.jm_semantics.proofs.laws.kept_count_is_determined.Goals as goal

pub returns : goal.returns
returns g c = λ d. kept_count_is_determined-lem (g.M.Monitor.meaning d)
