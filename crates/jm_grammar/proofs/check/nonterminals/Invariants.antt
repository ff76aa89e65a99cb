use Rattle.std.proofs.Common.{◌≡◌, drop}
use Rattle.std.specs.Prelude.{fold}
use Rattle.jm_reading.specs.Tokens.{name_of}
use Rattle.jm_events.specs.Names.{with_name}
use Rattle.jm_grammar.specs.declared.formula.Part.{Part}
use Rattle.jm_grammar.specs.Faults.{nonterminals}
use Rattle.jm_grammar.proofs.check.nonterminals.Given as goal

abbrev pub invariant-loop-part : goal.invariant-loop-part
invariant-loop-part l = fold (λ names (part : Part). with_name names (name_of l.bytes part.left)) l.names (drop l.part-index l.parts) ≡ nonterminals l.bytes l.parts
