use Rattle.jm_monitors.proofs.StartLemmas.{start_is_store-lem}
use Rattle.jm_monitors.proofs.laws.start_is_store.Goals as goal

pub returns : goal.returns
returns g c = start_is_store-lem (g.M.Monitor.meaning (g.M.Monitor.definition c.args.rules.now)) (g.M.Monitor.StandsFor c.args.rules.now)
