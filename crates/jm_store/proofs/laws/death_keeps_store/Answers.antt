use Rattle.jm_store.proofs.StoreLemmas.{store_after_death, fit_for_after_death}
use Rattle.jm_store.proofs.laws.death_keeps_store.Goals as goal

pub returns-clause-store : goal.returns-clause-store
returns-clause-store g c = store_after_death (g.M.Monitor.meaning (g.M.Monitor.definition c.args.rules.now)) (g.M.Monitor.StandsFor c.args.rules.now)

pub returns-clause-fits : goal.returns-clause-fits
returns-clause-fits g c = fit_for_after_death (g.M.Monitor.meaning (g.M.Monitor.definition c.args.rules.now)) (g.M.Monitor.StandsFor c.args.rules.now)
