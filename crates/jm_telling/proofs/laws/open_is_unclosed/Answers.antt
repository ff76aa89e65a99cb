use Rattle.jm_telling.proofs.TokenLemmas as lemmas
use Rattle.jm_telling.proofs.laws.open_is_unclosed.Goals as goal

pub returns : goal.returns
returns c = lemmas.open_is_unclosed
