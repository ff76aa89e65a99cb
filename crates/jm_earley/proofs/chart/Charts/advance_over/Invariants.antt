use Rattle.std.proofs.Common.{take}
use Rattle.jm_earley.specs.Growth.{Grows, IsAdvancedOver, AreAdvancedOver}
use Rattle.jm_earley.proofs.chart.Charts.advance_over.Given as goal

abbrev pub invariant-loop-item : goal.invariant-loop-item
invariant-loop-item l = record {
  grows : Grows (IsAdvancedOver l.self.grammar l.from l.symbol) l.initial.set l.set;
  all : AreAdvancedOver l.self.grammar (take l.item-index l.from) l.symbol l.set;
}
