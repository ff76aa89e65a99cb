use Rattle.jm_machine.proofs.RuleLemmas.{Rests}
use Rattle.jm_machine.proofs.rules.Rules.idle_of_each.Given as goal

abbrev pub invariant-loop-number : goal.invariant-loop-number
invariant-loop-number l = Rests l.self l.places l.otherwise l.number l.idle
