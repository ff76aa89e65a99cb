use Rattle.jm_semantics.proofs.FamilyLemmas.{update_family-lem}
use Rattle.jm_semantics.proofs.examples.update_family.Goals as goal

pub returns : goal.returns
returns c = update_family-lem
