use Rattle.jm_semantics.proofs.SmallExampleLemmas.{started_anew-legal}
use Rattle.jm_semantics.proofs.examples.started_anew.Goals as goal

pub returns : goal.returns
returns c = started_anew-legal
