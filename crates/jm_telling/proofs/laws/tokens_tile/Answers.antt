use Rattle.jm_telling.proofs.TokenLemmas as lemmas
use Rattle.jm_telling.proofs.laws.tokens_tile.Goals as goal

pub returns : goal.returns
returns c = lemmas.tokens_tile
