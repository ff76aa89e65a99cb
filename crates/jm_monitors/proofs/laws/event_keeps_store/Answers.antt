use Rattle.jm_monitors.proofs.EventLemmas.{event_keeps_store-lem}
use Rattle.jm_monitors.proofs.laws.event_keeps_store.Goals as goal

pub returns : goal.returns
returns g c = event_keeps_store-lem (g.M.Monitor.meaning (g.M.Monitor.definition c.args.rules.now)) (g.M.Monitor.StandsFor c.args.rules.now)
