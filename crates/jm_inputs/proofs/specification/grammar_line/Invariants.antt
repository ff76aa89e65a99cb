use Rattle.std.proofs.Common.{◌≡◌, map, drop}
use Rattle.jm_spec.specs.Trees.{facts_of}
use Rattle.jm_inputs.specs.Specifications.{grammar_line_of}
use Rattle.jm_inputs.proofs.specification.grammar_line.Given as goal

abbrev pub invariant-loop-property : goal.invariant-loop-property
invariant-loop-property l = grammar_line_of (map facts_of (drop l.property-index l.properties)) ≡ grammar_line_of (map facts_of l.properties)
