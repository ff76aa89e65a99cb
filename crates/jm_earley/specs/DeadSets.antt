-- Sets of dead parameters, and the letters that they leave.
use Rattle.std.specs.Prelude.{ℕ, ◌≡◌, ◌<◌, ◌↔◌, List, All, Some, IsBitSet, bit_and, length, slice_get, slice_index}
use Rattle.jm_model.specs.Words.{Mask}
use Rattle.jm_grammar.specs.declared.grammar.Production.{Production}
use Rattle.jm_earley.specs.declared.letter_set.LetterSet.{LetterSet}
use Rattle.jm_earley.specs.declared.dead.DeadSets.{DeadSets}
use Rattle.jm_earley.specs.LetterSets.{IsExact}

-- the letter is there, and has no dead parameter
abbrev pub IsAvailable : List Mask → ℕ → ℕ → Type 0
IsAvailable params dead letter = (letter < length params) × (bit_and (slice_index params letter) dead ≡ 0)

-- the set of the letters that a set of dead parameters leaves, by its number
pub record IsLeft (params : List Mask) (sets : List LetterSet) (dead : ℕ) (number : ℕ) : Type 0 where
  pub set : LetterSet
  pub found : slice_get sets number ≡ Some set
  pub letters : (letter : ℕ) → IsBitSet set.letters letter ↔ IsAvailable params dead letter

-- each set of dead parameters has its letters
pub record AreDeadSets (productions : List Production) (params : List Mask) (d : DeadSets) : Type 0 where
  pub exact : All (IsExact productions) d.sets.items
  pub each : (dead : ℕ) → dead < 256 → (number : ℕ) × (slice_get d.numbers.items dead ≡ Some number)
      × IsLeft params d.sets.items dead number
