use Rattle.jm_fsm.proofs.CompileLemmas.{HasGroups}
use Rattle.jm_fsm.proofs.machine.Fsm.compile.Given as goal

abbrev pub invariant-loop-category : goal.invariant-loop-category
invariant-loop-category l = HasGroups l.self l.nodes.items l.category l.initial.table l.table
