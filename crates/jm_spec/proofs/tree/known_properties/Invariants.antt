use Rattle.std.proofs.Common.{◌≡◌, drop, length, take, map}
use Rattle.jm_spec.specs.Faults.{logic_fault}
use Rattle.jm_spec.specs.Trees.{facts_of, TellsProperties}
use Rattle.jm_spec.proofs.tree.known_properties.Given as goal

abbrev pub invariant-loop-property : goal.invariant-loop-property
invariant-loop-property l = record {
  count : length l.trees.items ≡ l.property-index;
  told : TellsProperties l.bytes (take l.property-index l.properties) (map facts_of l.trees.items);
  later : logic_fault l.bytes (drop l.property-index l.properties) ≡ logic_fault l.bytes l.properties;
}
