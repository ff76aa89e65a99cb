use Rattle.jm_telling.proofs.TokenLemmas as lemmas
use Rattle.jm_telling.proofs.laws.texts_are_quoted.Goals as goal

pub returns : goal.returns
returns c = lemmas.texts_are_quoted
