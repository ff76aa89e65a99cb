use Rattle.jm_semantics.proofs.SmallExampleLemmas.{ticking-legal, full_ticking-legal}
use Rattle.jm_semantics.proofs.examples.ticking.Goals as goal

pub returns : goal.returns
returns c = record { all = ticking-legal; full = full_ticking-legal }
