use Rattle.jm_semantics.proofs.SmallExampleLemmas.{firing_in_order-legal}
use Rattle.jm_semantics.proofs.examples.firing_in_order.Goals as goal

pub returns : goal.returns
returns c = firing_in_order-legal
