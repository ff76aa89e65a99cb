use Rattle.std.proofs.Common.{ℕ, ◌≡◌, ◌<◌, All, length, slice_get, Some}
use Rattle.jm_earley.specs.LetterSets.{IsExact}
use Rattle.jm_earley.specs.DeadSets.{IsLeft}
use Rattle.jm_earley.proofs.dead.DeadSets.new.Given as goal

abbrev pub invariant-loop-dead : goal.invariant-loop-dead
invariant-loop-dead l =
    (length l.numbers.items ≡ l.dead) × All (IsExact l.grammar.productions) l.sets.items
    × ((dead : ℕ) → dead < l.dead → (number : ℕ) × (slice_get l.numbers.items dead ≡ Some number) × IsLeft l.params l.sets.items dead number)
