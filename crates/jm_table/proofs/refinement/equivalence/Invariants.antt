use Rattle.std.proofs.Common.{◌-◌, length}
use Rattle.jm_table.specs.Partitions.{AreClasses, AgreesBelow}
use Rattle.jm_table.proofs.refinement.equivalence.Given as goal

abbrev pub invariant-loop-group : goal.invariant-loop-group
invariant-loop-group l = record {
  classes : AreClasses l.table l.partition.classes.items l.partition.firsts.items;
  agrees : AgreesBelow l.table l.partition.classes.items l.group;
}

abbrev pub invariant-rounds : goal.invariant-rounds
invariant-rounds l = record {
  classes : AreClasses l.table l.partition.classes.items l.partition.firsts.items;
  agrees : AgreesBelow l.table l.partition.classes.items (length l.table.groups);
}

abbrev pub decreases-rounds : goal.decreases-rounds
decreases-rounds l = l.table.states - length l.partition.firsts.items
