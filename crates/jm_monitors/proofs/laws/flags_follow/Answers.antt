use Rattle.jm_monitors.proofs.DeathLemmas.{flags_at_start-lem, flags_after_death-lem, flags_after_other-lem}
use Rattle.jm_monitors.proofs.laws.flags_follow.Goals as goal

pub returns : goal.returns
returns c = record { start = flags_at_start-lem; death = flags_after_death-lem; other = flags_after_other-lem }
