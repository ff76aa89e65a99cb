use Rattle.std.proofs.Common.{◌≢◌, take}
use Rattle.std.specs.Prelude.{AllPairs}
use Rattle.jm_store.specs.Moves.{reached_by}
use Rattle.jm_store.specs.Reports.{AreHitsOf}
use Rattle.jm_store.proofs.report.list_hits.Given as goal

abbrev pub invariant-loop-step : goal.invariant-loop-step
invariant-loop-step g l =
    AllPairs (λ r s. r.instance ≢ s.instance) (reached_by l.moves)
    → AreHitsOf (g.M.Monitor.meaning (g.M.Monitor.definition l.rules)) (g.M.Monitor.StandsFor l.rules) (take l.step-index (reached_by l.moves)) l.firings
