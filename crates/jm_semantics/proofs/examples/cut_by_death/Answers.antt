use Rattle.jm_semantics.proofs.UnsafeIterLemmas.{cut_by_death-legal, cut_by_death-only}
use Rattle.jm_semantics.proofs.examples.cut_by_death.Goals as goal

pub returns : goal.returns
returns c = record { legal = cut_by_death-legal; only = cut_by_death-only }
