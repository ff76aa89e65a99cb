use Rattle.std.proofs.Common.{take}
use Rattle.jm_earley.specs.Kept.{IsReach}
use Rattle.jm_earley.proofs.earley_set.EarleySets.reach.Given as goal

abbrev pub invariant-loop-item : goal.invariant-loop-item
invariant-loop-item l = IsReach l.self (take l.item-index l.items) l.count
