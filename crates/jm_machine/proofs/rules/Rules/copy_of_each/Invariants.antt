use Rattle.std.proofs.Common.{ℕ, ◌≡◌, [], Some, length}
use Rattle.std.specs.Prelude.{slice_get}
use Rattle.jm_machine.specs.declared.place.Place.{Place}
use Rattle.jm_machine.specs.declared.place.Place.TheVariants.{Start}
use Rattle.jm_machine.proofs.RuleLemmas.{Follows}
use Rattle.jm_machine.proofs.rules.Rules.copy_of_each.Given as goal

abbrev pub invariant-loop-number : goal.invariant-loop-number
invariant-loop-number l = record {
  count : length l.copy.items ≡ l.number;
  each : (k : ℕ) (next : Place) → slice_get l.copy.items k ≡ Some next → Follows l.self l.places Start [] k next;
}
