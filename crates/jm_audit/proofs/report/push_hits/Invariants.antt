use Rattle.jm_audit.specs.Accounts.{IsPushed}
use Rattle.jm_audit.proofs.report.push_hits.Given as goal

abbrev pub invariant-loop-handler : goal.invariant-loop-handler
invariant-loop-handler l = IsPushed l.instance l.hits l.handler l.initial.list.items l.list.items
