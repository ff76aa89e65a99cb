-- What is said of states by their numbers.
use Rattle.std.specs.Prelude.{ℕ, [], ◌∷◌, ◌++◌, IsBitSet}
use Rattle.jm_model.specs.Words.{Word, Mask}
use Rattle.jm_model.specs.Meanings.{Meaning, IsHit, IsCutWord}

-- in place of a number: nothing is said
abbrev pub no_number : ℕ
no_number = 65535

-- in place of a number: the letter leaves the state as it is
abbrev pub at_rest : ℕ
at_rest = 65534

module _ (S : Type 0) (m : Meaning) (StandsFor : S → Word → Type 0) where
  -- The letter leads from one state to the other, whose words hit nothing, and of whose words an instance isn't cut
  -- while nothing of it is dead.
  pub record IsPlainMove (e : ℕ) (before after : S) : Type 0 where
    pub leads : (w : Word) → StandsFor before w → StandsFor after (w ++ e ∷ [])
    pub quiet : (w : Word) → StandsFor after w → (k : ℕ) → IsHit m w k → ⊥
    pub goes_on : (w : Word) → StandsFor after w → IsCutWord m w 0 → ⊥

  -- The letter leaves the state as it is: the state stands for its words with the letter at their end too. Its words
  -- hit nothing, and an instance of them isn't cut while nothing of it is dead.
  pub record IsAtRest (e : ℕ) (state : S) : Type 0 where
    pub stays : (w : Word) → StandsFor state w → StandsFor state (w ++ e ∷ [])
    pub quiet : (w : Word) → StandsFor state w → (k : ℕ) → IsHit m w k → ⊥
    pub goes_on : (w : Word) → StandsFor state w → IsCutWord m w 0 → ⊥

  -- Each letter whose bit is set ends an instance of the state: its words with the letter hit nothing, and an instance
  -- of theirs is cut even while nothing of it is dead.
  pub record AreEnds (mask : Mask) (state : S) : Type 0 where
    pub quiet : (w : Word) → StandsFor state w → (e k : ℕ) → IsBitSet mask e → IsHit m (w ++ e ∷ []) k → ⊥
    pub cut : (w : Word) → StandsFor state w → (e : ℕ) → IsBitSet mask e → IsCutWord m (w ++ e ∷ []) 0
