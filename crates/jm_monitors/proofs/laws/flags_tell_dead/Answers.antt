use Rattle.jm_monitors.proofs.DeathLemmas.{flags_tell_parameters-lem, flags_tell_live-lem}
use Rattle.jm_monitors.proofs.laws.flags_tell_dead.Goals as goal

pub returns : goal.returns
returns c = record { parameters = flags_tell_parameters-lem; live = flags_tell_live-lem }
