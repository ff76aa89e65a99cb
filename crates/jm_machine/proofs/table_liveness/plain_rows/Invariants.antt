use Rattle.std.proofs.Common.{◌≡◌, length, map}
use Rattle.jm_machine.specs.Liveness.{ArePlainRows}
use Rattle.jm_machine.proofs.table_liveness.plain_rows.Given as goal

abbrev pub invariant-loop-letter : goal.invariant-loop-letter
invariant-loop-letter l = record {
  count : length l.rows.items ≡ l.letter;
  each : ArePlainRows l.table l.hits l.goal l.needs (map (λ row. row.items) l.rows.items);
}
