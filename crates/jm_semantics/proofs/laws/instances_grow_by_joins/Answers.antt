use Rattle.jm_semantics.proofs.InstanceLemmas.{instances_grow_by_joins-lem}
use Rattle.jm_semantics.proofs.laws.instances_grow_by_joins.Goals as goal

pub returns : goal.returns
returns c = instances_grow_by_joins-lem
