use Rattle.jm_telling.proofs.OneRefusal as refusals
use Rattle.jm_telling.proofs.laws.one_refusal.Goals as goal

pub returns : goal.returns
returns c = refusals.one_refusal
