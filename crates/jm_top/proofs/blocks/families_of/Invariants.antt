use Rattle.std.proofs.Common.{◌≡◌, ℕ, length}
use Rattle.std.specs.Prelude.{map, slice_get, IfSome}
use Rattle.jm_semantics.specs.Families.{IsFamily}
use Rattle.jm_machine.specs.Meanings.{rules_meaning}
use Rattle.jm_top.proofs.blocks.families_of.Given as goal

abbrev pub invariant-loop-letter : goal.invariant-loop-letter
invariant-loop-letter l = record {
  many : length l.families.items ≡ l.letter;
  each : (k : ℕ) → IfSome (slice_get (map (λ f. f.items) l.families.items) k) (IsFamily (rules_meaning l.rules.definition) k);
}
