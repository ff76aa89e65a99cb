use Rattle.std.proofs.Common.{refl}
use Rattle.jm_events.specs.Chains.{chain_of}
use Rattle.jm_events.proofs.chains.chain_of.Goals as goal

pub returns-clause-value : goal.returns-clause-value
unfolding chain_of
returns-clause-value c = refl
