use Rattle.std.proofs.Common.{take}
use Rattle.jm_audit.specs.Accounts.{AreHits}
use Rattle.jm_audit.proofs.report.list_hits.Given as goal

abbrev pub invariant-loop-instance : goal.invariant-loop-instance
invariant-loop-instance g l = AreHits (g.M.Monitor.meaning (g.M.Monitor.definition l.rules)) l.binding (take l.instance-index l.instances) l.list.items
