use Rattle.jm_monitors.proofs.CountLemmas.{pass_counts_stored-lem}
use Rattle.jm_monitors.proofs.laws.pass_counts_stored.Goals as goal

pub returns : goal.returns
returns g c = pass_counts_stored-lem (g.M.Monitor.meaning (g.M.Monitor.definition c.args.rules.now)) (g.M.Monitor.StandsFor c.args.rules.now)
