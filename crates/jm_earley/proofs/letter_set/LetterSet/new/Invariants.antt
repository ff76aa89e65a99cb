use Rattle.std.proofs.Common.{◌≡◌, take, map}
use Rattle.jm_earley.specs.LetterSets.{spelling_rule}
use Rattle.jm_earley.proofs.letter_set.LetterSet.new.Given as goal

abbrev pub invariant-loop-production : goal.invariant-loop-production
invariant-loop-production l = l.rules.items ≡ map (spelling_rule l.letters l.spells) (take l.production-index l.grammar.productions)
