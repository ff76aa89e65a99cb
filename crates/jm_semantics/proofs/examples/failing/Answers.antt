use Rattle.jm_semantics.proofs.SmallExampleLemmas.{failing-legal}
use Rattle.jm_semantics.proofs.examples.failing.Goals as goal

pub returns : goal.returns
returns c = failing-legal
