use Rattle.jm_sweep.specs.Sweeps.{Fits}
use Rattle.test_sweep.proofs.script.steps_of.Given as goal

abbrev pub invariant-loop-word : goal.invariant-loop-word
invariant-loop-word g l = Fits (g.M.Monitor.meaning (g.M.Monitor.definition l.rules)) l.objects l.steps.items
