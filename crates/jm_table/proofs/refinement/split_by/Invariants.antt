use Rattle.std.proofs.Common.{ℕ, ◌≡◌, ◌<◌, length, get_or}
use Rattle.jm_table.specs.Partitions.{IsKeyOf}
use Rattle.jm_table.proofs.refinement.split_by.Given as goal

abbrev pub invariant-loop-state : goal.invariant-loop-state
invariant-loop-state l = record {
  count : length l.keys.items ≡ l.state;
  each : (p : ℕ) → p < l.state → IsKeyOf l.test l.table l.partition.classes.items l.partition.firsts.items p (get_or l.keys.items p 0);
}
