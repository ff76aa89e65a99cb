use Rattle.jm_semantics.proofs.SmallExampleLemmas.{never_failing-legal, never_failing_finely-legal}
use Rattle.jm_semantics.proofs.examples.never_failing.Goals as goal

pub returns : goal.returns
returns c = record { grammar = never_failing-legal; finely = never_failing_finely-legal }
