use Rattle.std.proofs.Common.{◌≡◌, length}
use Rattle.jm_machine.specs.Liveness.{IsPlainRow}
use Rattle.jm_machine.proofs.table_liveness.plain_row.Given as goal

abbrev pub invariant-loop-state : goal.invariant-loop-state
invariant-loop-state l = record {
  count : length l.row.items ≡ l.state;
  each : IsPlainRow l.table l.hits l.goal l.needs l.letter.0 l.row.items;
}
