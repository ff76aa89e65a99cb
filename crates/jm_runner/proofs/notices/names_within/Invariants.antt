use Rattle.std.proofs.Common.{◌<◌, ◌≤◌, take}
use Rattle.std.specs.Prelude.{All}
use Rattle.jm_runner.proofs.notices.names_within.Given as goal

abbrev pub invariant-loop-line : goal.invariant-loop-line
invariant-loop-line l = record {
  grown : l.names ≤ l.most;
  above : All (λ x. x.name < l.most) (take l.line-index l.lines);
}
