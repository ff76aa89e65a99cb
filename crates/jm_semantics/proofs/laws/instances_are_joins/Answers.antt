use Rattle.jm_semantics.proofs.InstanceLemmas.{instances_are_joins-lem}
use Rattle.jm_semantics.proofs.laws.instances_are_joins.Goals as goal

pub returns : goal.returns
returns c = instances_are_joins-lem
