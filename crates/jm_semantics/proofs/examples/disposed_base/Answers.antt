use Rattle.jm_semantics.proofs.ChainLemmas.{disposed_base-legal, disposed_base-only}
use Rattle.jm_semantics.proofs.examples.disposed_base.Goals as goal

pub returns : goal.returns
returns c = record { legal = disposed_base-legal; only = disposed_base-only }
