-- The categories of a past-time formula.
use Rattle.std.specs.Prelude.{ℕ, zero, suc, List, [], ◌∷◌, codes}
use Rattle.jm_model.specs.Words.{Text, Word}
use Rattle.jm_model.specs.declared.step.Letter.{Letter}
use Rattle.jm_ptltl.specs.Formulas.{Formula}
use Rattle.jm_ptltl.specs.Meanings.{HoldsLast}

-- the names of the categories, in the order of their groups
abbrev pub category_names : List Text
category_names = codes "validation" ∷ codes "violation" ∷ []

-- a category holds of a word that isn't empty: the formula is true, or false, at the word's last position
abbrev pub PastHolds : Formula Letter → ℕ → Word → Type 0
PastHolds f zero word = HoldsLast f word
PastHolds f (suc zero) word = HoldsLast f word → ⊥
PastHolds f (suc (suc category)) word = ⊥
