use Rattle.jm_monitors.proofs.DeathLemmas.{cut_by_own_death-lem}
use Rattle.jm_monitors.proofs.laws.cut_by_own_death.Goals as goal

pub returns : goal.returns
returns g c = cut_by_own_death-lem (g.M.Monitor.meaning (g.M.Monitor.definition c.args.rules.now))
