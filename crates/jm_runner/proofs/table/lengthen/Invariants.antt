use Rattle.std.specs.Prelude.{◌≡◌, map, length, vec_len}
use Rattle.jm_runner.specs.Tables.{lengthened}
use Rattle.jm_runner.proofs.table.lengthen.Given as goal

abbrev pub invariant-loop-x : goal.invariant-loop-x
invariant-loop-x g l = record {
  count : l.k ≡ length l.yielded;
  width : vec_len l.columns ≡ vec_len l.fn.columns;
  columns : map (λ v. v.items) l.columns.items ≡ lengthened (map (λ v. v.items) l.fn.columns.items) l.yielded;
}
