use Rattle.jm_machine.proofs.RuleLemmas.{Ends}
use Rattle.jm_machine.proofs.rules.Rules.ending_of_each.Given as goal

abbrev pub invariant-loop-number : goal.invariant-loop-number
invariant-loop-number l = Ends l.self l.places l.otherwise l.number l.ending
