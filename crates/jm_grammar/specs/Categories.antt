-- The categories of a grammar.
use Rattle.std.specs.Prelude.{ℕ, zero, suc, List, [], ◌∷◌, codes}
use Rattle.jm_model.specs.Words.{Text, Word}
use Rattle.jm_grammar.specs.Grammars.{GrammarDefinition}
use Rattle.jm_grammar.specs.Meanings.{IsWord, IsHopeless}

-- the names of the categories, in the order of their numbers
abbrev pub category_names : List Text
category_names = codes "match" ∷ codes "fail" ∷ []

-- a category holds of a word: the word is in the language, or no word that begins with it is
abbrev pub GrammarHolds : GrammarDefinition → ℕ → Word → Type 0
GrammarHolds g zero word = IsWord g word
GrammarHolds g (suc zero) word = IsHopeless g word
GrammarHolds g (suc (suc category)) word = ⊥
