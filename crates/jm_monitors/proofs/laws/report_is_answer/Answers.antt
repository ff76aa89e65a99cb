use Rattle.jm_monitors.proofs.ReachLemmas.{report_is_answer-lem}
use Rattle.jm_monitors.proofs.laws.report_is_answer.Goals as goal

pub returns : goal.returns
returns g c = report_is_answer-lem (g.M.Monitor.meaning (g.M.Monitor.definition c.args.rules.now)) (g.M.Monitor.StandsFor c.args.rules.now)
