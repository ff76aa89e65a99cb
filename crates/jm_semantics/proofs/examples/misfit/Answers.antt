use Rattle.jm_semantics.proofs.UnsafeIterLemmas.{misfit-not}
use Rattle.jm_semantics.proofs.examples.misfit.Goals as goal

pub returns : goal.returns
returns c = misfit-not
