use Rattle.jm_monitors.proofs.StartLemmas.{joins_of_seen_stand-lem}
use Rattle.jm_monitors.proofs.laws.joins_of_seen_stand.Goals as goal

pub returns : goal.returns
returns c = joins_of_seen_stand-lem
