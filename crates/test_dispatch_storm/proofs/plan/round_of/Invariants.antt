use Rattle.test_dispatch_storm.specs.Runners.{AreFitSteps}
use Rattle.test_dispatch_storm.proofs.plan.round_of.Given as goal

abbrev pub invariant-loop-step : goal.invariant-loop-step
invariant-loop-step g l = AreFitSteps (g.M.Monitor.meaning (g.M.Monitor.definition l.rules)) l.plan.objects l.steps.items
