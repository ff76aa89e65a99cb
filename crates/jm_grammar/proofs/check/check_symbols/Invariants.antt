use Rattle.std.proofs.Common.{◌≡◌, drop}
use Rattle.std.specs.List.{list_any}
use Rattle.jm_grammar.specs.Faults.{is_long, has_long}
use Rattle.jm_grammar.proofs.check.check_symbols.Given as goal

abbrev pub invariant-loop-part : goal.invariant-loop-part
invariant-loop-part l = list_any (has_long l.bytes) (drop l.part-index l.parts) ≡ list_any (has_long l.bytes) l.parts

abbrev pub invariant-loop-symbols : goal.invariant-loop-symbols
invariant-loop-symbols l = list_any (is_long l.bytes) (drop l.symbols-index l.symbols-items) ≡ list_any (is_long l.bytes) l.symbols-items
