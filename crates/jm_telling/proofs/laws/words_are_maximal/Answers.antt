use Rattle.jm_telling.proofs.TokenLemmas as lemmas
use Rattle.jm_telling.proofs.laws.words_are_maximal.Goals as goal

pub returns : goal.returns
returns c = lemmas.words_are_maximal
