use Rattle.std.specs.Prelude.{◌≡◌, map, vec_len}
use Rattle.jm_runner.specs.Tables.{AreColumns}
use Rattle.jm_runner.proofs.table.columns.Given as goal

abbrev pub invariant-loop-row : goal.invariant-loop-row
invariant-loop-row g l = record {
  count : vec_len l.columns ≡ l.width;
  columns : AreColumns (map (λ v. v.items) l.yielded) (map (λ v. v.items) l.columns.items);
}
