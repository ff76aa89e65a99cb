use Rattle.jm_monitors.proofs.BaseLemmas.{made_is_new-lem}
use Rattle.jm_monitors.proofs.laws.made_is_new.Goals as goal

pub returns : goal.returns
returns g c = made_is_new-lem (g.M.Monitor.meaning (g.M.Monitor.definition c.args.rules.now)) (g.M.Monitor.StandsFor c.args.rules.now)
