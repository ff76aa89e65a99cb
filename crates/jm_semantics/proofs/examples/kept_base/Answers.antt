use Rattle.jm_semantics.proofs.ChainLemmas.{kept_base-legal}
use Rattle.jm_semantics.proofs.examples.kept_base.Goals as goal

pub returns : goal.returns
returns c = kept_base-legal
