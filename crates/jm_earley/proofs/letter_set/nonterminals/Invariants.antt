use Rattle.std.proofs.Common.{◌≡◌, drop, fold}
use Rattle.jm_earley.specs.LetterSets.{with_nonterminal, nonterminals}
use Rattle.jm_earley.proofs.letter_set.nonterminals.Given as goal

abbrev pub invariant-loop-symbol : goal.invariant-loop-symbol
invariant-loop-symbol l = fold with_nonterminal l.known (drop l.symbol-index l.symbols) ≡ nonterminals l.symbols
