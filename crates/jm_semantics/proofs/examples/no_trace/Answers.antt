use Rattle.jm_semantics.proofs.ChainLemmas.{no_trace-legal}
use Rattle.jm_semantics.proofs.examples.no_trace.Goals as goal

pub returns : goal.returns
returns c = no_trace-legal
