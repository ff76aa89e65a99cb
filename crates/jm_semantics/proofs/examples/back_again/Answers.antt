use Rattle.jm_semantics.proofs.SmallExampleLemmas.{back_again-legal}
use Rattle.jm_semantics.proofs.examples.back_again.Goals as goal

pub returns : goal.returns
returns c = back_again-legal
