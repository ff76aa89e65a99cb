use Rattle.std.proofs.Common.{◌≡◌, ◌++◌}
use Rattle.std.specs.Prelude.{reverse}
use Rattle.std.specs.List.{flat_map}
use Rattle.jm_history.specs.Chains.{newest_first}
use Rattle.jm_history.proofs.history.History.pieces.Given as goal

abbrev pub invariant-loop-rest : goal.invariant-loop-rest
invariant-loop-rest l = reverse (newest_first l.rest) ++ flat_map (λ piece. piece) (reverse l.pieces.items) ≡ l.self
