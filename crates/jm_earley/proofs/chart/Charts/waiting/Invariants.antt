use Rattle.std.proofs.Common.{take}
use Rattle.jm_earley.specs.AwaitIndex.{IsWaiting}
use Rattle.jm_earley.proofs.chart.Charts.waiting.Given as goal

abbrev pub invariant-loop-item : goal.invariant-loop-item
invariant-loop-item l = IsWaiting l.self.grammar (take l.item-index l.items) l.waiting
