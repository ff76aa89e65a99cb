use Rattle.jm_semantics.proofs.UnsafeIterLemmas.{use_after_death-legal, use_after_death-only}
use Rattle.jm_semantics.proofs.examples.use_after_death.Goals as goal

pub returns : goal.returns
returns c = record { legal = use_after_death-legal; only = use_after_death-only }
