use Rattle.jm_semantics.proofs.SmallExampleLemmas.{silence-legal}
use Rattle.jm_semantics.proofs.examples.silence.Goals as goal

pub returns : goal.returns
returns c = silence-legal
