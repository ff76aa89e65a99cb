use Rattle.std.specs.Prelude.{◌≡◌, [], map, replicate}
use Rattle.jm_runner.proofs.table.empty_columns.Given as goal

abbrev pub invariant-loop-k : goal.invariant-loop-k
invariant-loop-k g l = map (λ v. v.items) l.columns.items ≡ replicate l._k []
