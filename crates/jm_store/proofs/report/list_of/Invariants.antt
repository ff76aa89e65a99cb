use Rattle.std.proofs.Common.{◌≡◌, take}
use Rattle.jm_store.proofs.report.list_of.Given as goal

abbrev pub invariant-loop-i : goal.invariant-loop-i
invariant-loop-i l = l.list.items ≡ take l.i l.firings
