use Rattle.std.proofs.Common.{All}
use Rattle.jm_core.specs.Steps.{IsEventOf}
use Rattle.testkit_monitor.specs.Tables.{table_meaning}
use Rattle.test_core_table.proofs.rig.Rig.steps.Given as goal

abbrev pub invariant-loop-line : goal.invariant-loop-line
invariant-loop-line l = All (λ s. IsEventOf (table_meaning l.self.prop.definition) 8 s.1) l.steps.items
