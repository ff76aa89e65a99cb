use Rattle.std.proofs.Common.{ℕ, ◌≡◌, [], ◌∷◌, Some, length}
use Rattle.std.specs.Prelude.{slice_get}
use Rattle.jm_machine.specs.declared.place.Place.{Place}
use Rattle.jm_machine.proofs.RuleLemmas.{Follows}
use Rattle.jm_machine.proofs.rules.Rules.next_of_each.Given as goal

abbrev pub invariant-loop-number : goal.invariant-loop-number
invariant-loop-number l = record {
  count : length l.next.items ≡ l.number;
  each : (k : ℕ) (next : Place) → slice_get l.next.items k ≡ Some next → Follows l.self l.places l.otherwise (l.letter.0 ∷ []) k next;
}
