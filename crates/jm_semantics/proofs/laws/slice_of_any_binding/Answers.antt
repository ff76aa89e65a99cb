use Rattle.jm_semantics.proofs.InstanceLemmas.{slice_of_any_binding-lem}
use Rattle.jm_semantics.proofs.laws.slice_of_any_binding.Goals as goal

pub returns : goal.returns
returns c = slice_of_any_binding-lem
