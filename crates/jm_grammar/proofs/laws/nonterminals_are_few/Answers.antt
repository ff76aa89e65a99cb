use Rattle.jm_grammar.proofs.ReadLemmas.{nonterminals_within}
use Rattle.jm_grammar.proofs.laws.nonterminals_are_few.Goals as goal

pub returns : goal.returns
returns c = nonterminals_within
