use Rattle.std.proofs.Common.{◌-◌, ◌≤◌}
use Rattle.jm_index.specs.Layout.{AreThinned}
use Rattle.jm_index.proofs.trees.Trees.thin_all.Given as goal

abbrev pub invariant-loop-bound : goal.invariant-loop-bound
invariant-loop-bound l = (l.from ≤ 8) × AreThinned l.entries l.fn.self l.self

abbrev pub decreases-loop-bound : goal.decreases-loop-bound
decreases-loop-bound l = 8 - l.from
