use Rattle.std.proofs.Common.{subst}
use Rattle.std.proofs.lemmas.Result.{IfOk-weaker}
use Rattle.jm_runner.specs.Runs.{IsRunOf}
use Rattle.jm_runner.proofs.run.run_with_notes.Goals as goal

pub returns-clause-runs : goal.returns-clause-runs
returns-clause-runs g c =
    IfOk-weaker c.run_queues.result _ _
    (λ props runs s r p rat pat. subst (λ l. IsRunOf (g.M.Monitor.meaning r.watch.fixed.definition) l s r.watch.fixed p) c.in_ok-queues.ensures (runs s r p rat pat))
    c.run_queues.ensures.runs
