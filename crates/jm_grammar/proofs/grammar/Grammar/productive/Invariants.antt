use Rattle.std.proofs.Common.{◌≡◌, ◌-◌, ◌^◌, drop}
use Rattle.jm_grammar.specs.Rounds.{round}
use Rattle.jm_grammar.proofs.RoundLemmas.{IsSound}
use Rattle.jm_grammar.proofs.grammar.Grammar.productive.Given as goal

abbrev pub invariant-rounds : goal.invariant-rounds
invariant-rounds l = IsSound l.self.productions l.letters l.known

abbrev pub decreases-rounds : goal.decreases-rounds
decreases-rounds l = 2 ^ 64 - l.known

abbrev pub invariant-loop-production : goal.invariant-loop-production
invariant-loop-production l = round (drop l.production-index l.productions) l.letters l.next ≡ round l.productions l.letters l.known
