use Rattle.std.proofs.Common.{◌≡◌, [], length}
use Rattle.std.specs.Prelude.{All}
use Rattle.jm_runner.proofs.run.no_cuts.Given as goal

abbrev pub invariant-loop-k : goal.invariant-loop-k
invariant-loop-k l = record {
  count : length l.cuts.items ≡ l._k;
  none : All (λ cut. cut.lines.items ≡ []) l.cuts.items;
}
