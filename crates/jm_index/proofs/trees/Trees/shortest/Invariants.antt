use Rattle.std.proofs.Common.{◌-◌, ◌≤◌}
use Rattle.jm_index.specs.Layout.{IsPathBelow}
use Rattle.jm_index.proofs.trees.Trees.shortest.Given as goal

abbrev pub invariant-loop-bound : goal.invariant-loop-bound
invariant-loop-bound l = (l.from ≤ 8) × IsPathBelow l.binding l.best

abbrev pub decreases-loop-bound : goal.decreases-loop-bound
decreases-loop-bound l = 8 - l.from
