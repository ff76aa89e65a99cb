use Rattle.jm_semantics.proofs.SmallExampleLemmas.{two_properties-legal, first_property-cut, second_property-uncut}
use Rattle.jm_semantics.proofs.examples.two_properties.Goals as goal

pub returns : goal.returns
returns c = record { legal = two_properties-legal; first = first_property-cut; second = second_property-uncut }
