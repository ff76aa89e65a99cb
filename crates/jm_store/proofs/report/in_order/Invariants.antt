use Rattle.std.proofs.Common.{◌≡◌, take}
use Rattle.jm_store.proofs.report.in_order.Given as goal

abbrev pub invariant-loop-firing : goal.invariant-loop-firing
invariant-loop-firing l = l.sorted ≡ take l.firing-index l.firing-items
