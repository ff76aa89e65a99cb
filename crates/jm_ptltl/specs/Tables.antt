-- What the table of a formula is.
use Rattle.std.specs.Prelude.{◌≡◌, ℕ, ◌<◌, ◌≤◌, ◌↔◌, List, All, IsBitSet, IsSomeAnd, length, slice_get, ◌+◌, Contains}
use Rattle.jm_model.specs.Words.{Word}
use Rattle.jm_model.specs.declared.step.Letter.{Letter}
use Rattle.jm_table.specs.Tables.{Transitions, IsInGroup, IsWord, state_after_of}
use Rattle.jm_table.specs.Explorations.{IsWithoutRepeats}
use Rattle.jm_ptltl.specs.Formulas.{Formula, subformulas}
use Rattle.jm_ptltl.specs.Meanings.{HoldsLast}

-- After each word that isn't empty the state is in the first group, the validations, exactly where the formula is true
-- at the last position, and in the second, the violations, exactly where it is false. After the empty word it is in
-- neither.
pub record IsCompiled (f : Formula Letter) (t : Transitions) : Type 0 where
  pub validation : (word : Word) → IsWord t word → 0 < length word
      → IsInGroup t (state_after_of t word) 0 ↔ HoldsLast f word
  pub violation : (word : Word) → IsWord t word → 0 < length word
      → IsInGroup t (state_after_of t word) 1 ↔ (¬ HoldsLast f word)
  pub start : (group : ℕ) → ¬ IsInGroup t 0 group

-- The vector of truth of all subformulas at the last position of the word: bit k is set exactly where subformula k is
-- there and true.
abbrev pub IsVector : Formula Letter → Word → ℕ → Type 0
IsVector f word vector = (k : ℕ) → IsBitSet vector k ↔ IsSomeAnd (slice_get (subformulas f) k) (λ g. HoldsLast g word)

-- the vector is that of some word of letters below this number that isn't empty
abbrev pub IsReachedVector : Formula Letter → ℕ → ℕ → Type 0
IsReachedVector f letters vector =
    (word : Word) × (0 < length word) × All (λ letter. letter < letters) word × IsVector f word vector

-- with the start there are more states than a table may have: at least 1,024 vectors are reached
pub record IsCrowded (f : Formula Letter) (letters : ℕ) : Type 0 where
  pub vectors : List ℕ
  pub many : 1024 ≤ length vectors
  pub each : All (IsReachedVector f letters) vectors
  pub distinct : IsWithoutRepeats vectors

-- the states are the start and the vectors that words reach
pub record HasStates (f : Formula Letter) (t : Transitions) : Type 0 where
  pub vectors : List ℕ
  pub count : t.states ≡ length vectors + 1
  pub each : All (IsReachedVector f t.letters) vectors
  pub all : (vector : ℕ) → IsReachedVector f t.letters vector → Contains vectors vector
  pub distinct : IsWithoutRepeats vectors
