use Rattle.jm_ere.proofs.NormalityLemmas.{reached_normal}
use Rattle.jm_ere.proofs.laws.forms_are_normal.Goals as goal

pub returns : goal.returns
returns c = reached_normal
