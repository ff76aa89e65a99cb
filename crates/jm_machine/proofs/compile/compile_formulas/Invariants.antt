use Rattle.std.proofs.Common.{ℕ, ◌≡◌, ◌<◌, Some, drop, length, map}
use Rattle.std.specs.Prelude.{slice_get}
use Rattle.jm_model.specs.declared.fault.SpecFault.{SpecFault}
use Rattle.jm_spec.specs.Trees.{PropertyFacts, facts_of}
use Rattle.jm_machine.specs.declared.formula.Formula.{Formula}
use Rattle.jm_machine.specs.Formulas.{IsTableFault}
use Rattle.jm_machine.specs.CompiledProperties.{CompiledProperty}
use Rattle.jm_machine.specs.Refusals.{IsPart}
use Rattle.jm_machine.proofs.compile.compile_formulas.Given as goal

abbrev pub invariant-loop-property : goal.invariant-loop-property
invariant-loop-property l = record {
  rest : l.formulas.items ≡ drop l.property-index l.fn.formulas.items;
  count : length l.parts.items ≡ l.property-index;
  each : (k : ℕ) (p : PropertyFacts) (f : Formula) (part : CompiledProperty) → slice_get (map facts_of l.tree.properties.items) k ≡ Some p → slice_get l.fn.formulas.items k ≡ Some f → slice_get l.parts.items k ≡ Some part
      → IsPart l.bytes l.tree.full_binding l.tokens l.tree.table p f part;
  settled : (k : ℕ) (f : Formula) (fault : SpecFault) → k < l.property-index → slice_get l.fn.formulas.items k ≡ Some f → IsTableFault f (length l.tree.table.events) fault → ⊥;
}
