use Rattle.std.proofs.Common.{◌≡◌, filter, take}
use Rattle.jm_grammar.specs.Rounds.{are_known}
use Rattle.jm_grammar.proofs.grammar.Grammar.reduce.Given as goal

abbrev pub invariant-loop-production : goal.invariant-loop-production
invariant-loop-production l = l.kept.items ≡ filter (λ p. are_known 4294967295 l.known p.symbols) (take l.production-index l.self.productions)
