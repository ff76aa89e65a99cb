use Rattle.std.proofs.Common.{All}
use Rattle.jm_sweep.specs.Sweeps.{Fits}
use Rattle.test_sweep.proofs.script.parts_of.Given as goal

abbrev pub invariant-loop-words : goal.invariant-loop-words
invariant-loop-words g l = All (λ p. Fits (g.M.Monitor.meaning (g.M.Monitor.definition l.rules)) p.objects p.steps.items) l.parts.items
