-- The categories of a regular expression.
use Rattle.std.specs.Prelude.{ℕ, zero, suc, List, [], ◌∷◌, codes}
use Rattle.jm_model.specs.Words.{Text, Word}
use Rattle.jm_ere.specs.Expressions.{Expression}
use Rattle.jm_ere.specs.Meanings.{InLanguage, IsFailed}

-- the names of the categories, in the order of their groups
abbrev pub category_names : List Text
category_names = codes "match" ∷ codes "fail" ∷ []

-- a category holds of a word, over so many letters: the word is in the language, or no extension of it is
abbrev pub ExpressionHolds : Expression → ℕ → ℕ → Word → Type 0
ExpressionHolds e letters zero word = InLanguage e word
ExpressionHolds e letters (suc zero) word = IsFailed e letters word
ExpressionHolds e letters (suc (suc category)) word = ⊥
