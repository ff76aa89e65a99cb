use Rattle.std.proofs.Common.{All}
use Rattle.test_dispatch_storm.specs.Runners.{AreFitSteps}
use Rattle.test_dispatch_storm.proofs.plan.rounds_of.Given as goal

abbrev pub invariant-loop-round : goal.invariant-loop-round
invariant-loop-round g l = All (λ steps. AreFitSteps (g.M.Monitor.meaning (g.M.Monitor.definition l.rules)) l.plan.objects steps.items) l.rounds.items
