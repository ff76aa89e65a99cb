use Rattle.jm_telling.proofs.PartLemmas.{recording_alone}
use Rattle.jm_telling.proofs.laws.parts_are_scripts.Goals as goal

pub returns : goal.returns
returns c = recording_alone
