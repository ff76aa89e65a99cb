use Rattle.std.proofs.Common.{refl}
use Rattle.jm_events.specs.Hash.{mix}
use Rattle.jm_events.proofs.hash.mix.Goals as goal

pub returns : goal.returns
unfolding mix
returns c = refl
