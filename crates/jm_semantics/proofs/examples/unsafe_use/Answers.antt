use Rattle.jm_semantics.proofs.UnsafeIterLemmas.{unsafe_use-legal}
use Rattle.jm_semantics.proofs.examples.unsafe_use.Goals as goal

pub returns : goal.returns
returns c = unsafe_use-legal
