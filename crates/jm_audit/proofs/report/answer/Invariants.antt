use Rattle.std.proofs.Common.{◌≡◌, take}
use Rattle.jm_audit.proofs.report.answer.Given as goal

abbrev pub invariant-loop-firing : goal.invariant-loop-firing
invariant-loop-firing l = l.firings ≡ take l.firing-index l.list
