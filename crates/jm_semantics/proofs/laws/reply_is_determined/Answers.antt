use Rattle.jm_semantics.proofs.ReplyLemmas.{reply_is_determined-lem}
use Rattle.jm_semantics.proofs.laws.reply_is_determined.Goals as goal

pub returns : goal.returns
returns g c = λ d. reply_is_determined-lem (g.M.Monitor.meaning d)
