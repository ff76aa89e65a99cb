use Rattle.jm_top.proofs.SweepLemmas.{are_replays}
use Rattle.jm_top.proofs.sweep.history_of.Goals as goal

pub returns : goal.returns
returns g c = are_replays (g.M.Monitor.meaning (g.M.Monitor.definition c.args.rules.now)) c.args.part.now.steps.items c.replay_part.result c.replay_part.ensures
