use Rattle.std.proofs.Common.{ℕ, ◌<◌, ◌-◌, ◌^◌, ◌≡◌, Some, slice_get, Contains}
use Rattle.jm_earley.specs.declared.item.Item.{Item}
use Rattle.jm_earley.specs.Growth.{IsPredictedSet, IsWorked, IsMade}
use Rattle.jm_earley.specs.AwaitIndex.{AreWaiting}
use Rattle.jm_earley.proofs.chart.Charts.close.Given as goal

abbrev pub invariant-loop-item : goal.invariant-loop-item
invariant-loop-item l = record {
  kept_first : (x : Item) → Contains l.fn.first x → Contains l.growth.set x;
  worked : AreWaiting l.self.grammar l.kept → (k : ℕ) (x : Item) → k < l.number → slice_get l.growth.set k ≡ Some x → IsWorked l.self.grammar l.kept l.place l.growth.set x;
  made : AreWaiting l.self.grammar l.kept → (x : Item) → Contains l.growth.set x → IsMade l.self.grammar l.kept l.place l.fn.first x;
  predicted : IsPredictedSet l.self.grammar l.place l.growth.predicted l.growth.set;
}

abbrev pub decreases-loop-item : goal.decreases-loop-item
decreases-loop-item l = 2 ^ 63 - l.number
