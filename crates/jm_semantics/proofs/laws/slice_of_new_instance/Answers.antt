use Rattle.jm_semantics.proofs.InstanceLemmas.{slice_of_new_instance-lem}
use Rattle.jm_semantics.proofs.laws.slice_of_new_instance.Goals as goal

pub returns : goal.returns
returns c = slice_of_new_instance-lem
