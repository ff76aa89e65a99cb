use Rattle.jm_audit.proofs.HitLemmas.{kept_of}
use Rattle.jm_audit.proofs.report.kept.Goals as goal

pub returns : goal.returns
returns g c =
    kept_of (g.M.Monitor.meaning (g.M.Monitor.definition c.args.rules.now)) c.args.dead.now c.args.instances.now _ _
    c.put_bindings_in_order.ensures.increasing c.put_bindings_in_order.ensures.members c.in_ok-list.ensures
