use Rattle.std.proofs.Common.{take}
use Rattle.jm_audit.specs.Accounts.{AreAlive}
use Rattle.jm_audit.proofs.report.list_alive.Given as goal

abbrev pub invariant-loop-instance : goal.invariant-loop-instance
invariant-loop-instance g l = AreAlive (g.M.Monitor.meaning (g.M.Monitor.definition l.rules)) l.dead (take l.instance-index l.instances) l.list.items
