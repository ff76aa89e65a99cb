use Rattle.jm_semantics.proofs.UnsafeIterLemmas.{refusals-legal}
use Rattle.jm_semantics.proofs.examples.refusals.Goals as goal

pub returns : goal.returns
returns c = refusals-legal
