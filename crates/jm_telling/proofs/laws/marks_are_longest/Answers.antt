use Rattle.jm_telling.proofs.TokenLemmas as lemmas
use Rattle.jm_telling.proofs.laws.marks_are_longest.Goals as goal

pub returns : goal.returns
returns c = lemmas.marks_are_longest
