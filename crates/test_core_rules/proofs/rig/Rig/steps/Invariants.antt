use Rattle.std.proofs.Common.{All}
use Rattle.jm_core.specs.Steps.{IsFitStep}
use Rattle.test_core_rules.proofs.rig.Rig.steps.Given as goal

abbrev pub invariant-loop-word : goal.invariant-loop-word
invariant-loop-word g l = All (λ s. IsFitStep (g.M.Monitor.meaning l.self.prop.definition) l.self.prop.objects s.1) l.steps.items
