use Rattle.std.proofs.Common.{◌+◌}
use Rattle.jm_index.proofs.TreeLemmas.{AreCleared}
use Rattle.jm_index.proofs.trees.Trees.clear.Given as goal

abbrev pub invariant-loop-m : goal.invariant-loop-m
invariant-loop-m l = AreCleared (l.object + 1) l.m l.initial.self-inside.trees.items l.self-inside.trees.items
