use Rattle.jm_grammar.proofs.WrittenLemmas.{grammar_written}
use Rattle.jm_grammar.proofs.laws.productions_as_written.Goals as goal

pub returns : goal.returns
returns c = λ bytes tokens table suffix g read. (read.0, read.1, grammar_written bytes table read.0 g read.3)
