-- What is left of a word since its last reset, and of which letters a category is asked.
use Rattle.std.specs.Prelude.{ℕ, ◌≡◌, ◌⊎◌, [], ◌∷◌, ◌++◌}
use Rattle.jm_model.specs.Words.{Word}

-- over the words that reset a property
module _ (Resets : Word → Type 0) where
  -- with a letter more: nothing is left where what was left resets with it, and else it is left with it
  abbrev pub IsLeftBy : Word → ℕ → Word → Type 0
  IsLeftBy rest e after = (Resets (rest ++ e ∷ []) × (after ≡ []))
      ⊎ ((Resets (rest ++ e ∷ []) → ⊥) × (after ≡ rest ++ e ∷ []))

  -- with these letters more, one after the other
  abbrev pub IsLeftFrom : Word → Word → Word → Type 0
  IsLeftFrom rest [] left = left ≡ rest
  IsLeftFrom rest (e ∷ w) left = (after : Word) × IsLeftBy rest e after × IsLeftFrom after w left

  -- what is left of the word
  abbrev pub IsRest : Word → Word → Type 0
  IsRest w rest = IsLeftFrom [] w rest

  -- A category is asked of these letters after the word: of what is left before its last letter, with that letter.
  pub record IsAsked (w asked : Word) : Type 0 where
    pub before : Word
    pub last : ℕ
    pub rest : Word
    pub word : w ≡ before ++ last ∷ []
    pub left : IsRest before rest
    pub letters : asked ≡ rest ++ last ∷ []
