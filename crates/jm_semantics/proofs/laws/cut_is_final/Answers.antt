use Rattle.jm_semantics.proofs.CutLemmas.{cut_is_final-lem}
use Rattle.jm_semantics.proofs.laws.cut_is_final.Goals as goal

pub returns : goal.returns
returns g c = λ d. cut_is_final-lem (g.M.Monitor.meaning d)
