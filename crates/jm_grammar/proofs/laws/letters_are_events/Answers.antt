use Rattle.jm_grammar.proofs.ReadLemmas.{letters_there}
use Rattle.jm_grammar.proofs.laws.letters_are_events.Goals as goal

pub returns : goal.returns
returns c = letters_there
