use Rattle.jm_machine.proofs.JoinLemmas.{IsJoined}
use Rattle.jm_machine.proofs.rules.Rules.family.Given as goal

abbrev pub invariant-loop-number : goal.invariant-loop-number
invariant-loop-number l = IsJoined l.self l.letter.0 l.number l.all.items
