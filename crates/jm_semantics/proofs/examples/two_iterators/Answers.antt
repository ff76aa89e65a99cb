use Rattle.jm_semantics.proofs.UnsafeIterLemmas.{two_iterators-legal}
use Rattle.jm_semantics.proofs.examples.two_iterators.Goals as goal

pub returns : goal.returns
returns c = two_iterators-legal
