use Rattle.std.proofs.Common.{map, take}
use Rattle.std.specs.Option.{is_some}
use Rattle.jm_spec.specs.Trees.{facts_of}
use Rattle.jm_machine.proofs.RefusalLemmas.{ReadSoFar}
use Rattle.jm_machine.proofs.compile.read_formulas.Given as goal

abbrev pub invariant-loop-property : goal.invariant-loop-property
invariant-loop-property l =
    ReadSoFar l.bytes l.tokens l.tree.table (is_some l.tree.suffix) (map facts_of (take l.property-index l.tree.properties.items)) l.formulas.items l.first
