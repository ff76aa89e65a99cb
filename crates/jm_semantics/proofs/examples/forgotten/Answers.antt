use Rattle.jm_semantics.proofs.UnsafeIterLemmas.{forgotten-legal}
use Rattle.jm_semantics.proofs.examples.forgotten.Goals as goal

pub returns : goal.returns
returns c = forgotten-legal
