use Rattle.jm_monitors.proofs.BaseLemmas.{base_is_one-lem}
use Rattle.jm_monitors.proofs.laws.base_is_one.Goals as goal

pub returns : goal.returns
returns g c = base_is_one-lem (g.M.Monitor.meaning (g.M.Monitor.definition c.args.rules.now)) (g.M.Monitor.StandsFor c.args.rules.now)
