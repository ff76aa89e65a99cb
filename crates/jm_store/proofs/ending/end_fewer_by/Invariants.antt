use Rattle.std.proofs.Common.{take}
use Rattle.jm_store.specs.Moves.{EndsFewer, AreEnding, reached_by}
use Rattle.jm_store.proofs.ending.end_fewer_by.Given as goal

abbrev pub invariant-loop-step : goal.invariant-loop-step
invariant-loop-step g l = record {
  fewer : EndsFewer l.initial.ending l.ending;
  ended : AreEnding (g.M.Monitor.meaning (g.M.Monitor.definition l.rules)) (g.M.Monitor.StandsFor l.rules) l.ending (reached_by (take l.step-index l.moves));
}
