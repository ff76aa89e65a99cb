-- What a grammar means: which words its derivation trees spell.
use Rattle.std.specs.Prelude.{ℕ, ◌≡◌, ◌⊎◌, List, [], ◌∷◌, ◌++◌, All, Contains, IsBitSet}
use Rattle.jm_model.specs.Words.{Word}
use Rattle.jm_model.specs.declared.step.Letter.{Letter as LetterType}
use Rattle.jm_grammar.specs.declared.grammar.GrammarSymbol.{GrammarSymbol}
use Rattle.jm_grammar.specs.declared.grammar.GrammarSymbol.TheVariants.{Letter, Nonterminal}
use Rattle.jm_grammar.specs.declared.grammar.Production.{Production}
use Rattle.jm_grammar.specs.Grammars.{GrammarDefinition}

-- Derivation trees that stand side by side, one for each of these symbols in order; their leaves spell the word. A tree
-- of a letter is a leaf. A tree of a nonterminal has below it the trees of the symbols of one of its productions.
pub data Trees (productions : List Production) : List GrammarSymbol → Word → Type 0 where
  no_tree : Trees productions [] []
  leaf : {symbols : List GrammarSymbol} {word : Word} (letter : LetterType) → Trees productions symbols word
      → Trees productions (Letter letter ∷ symbols) (letter.0 ∷ word)
  node : {symbols : List GrammarSymbol} {word : Word} (n : ℕ) (below : List GrammarSymbol) (first rest : Word)
      → Contains productions (record { left = n; symbols = below })
      → word ≡ first ++ rest → Trees productions below first → Trees productions symbols rest
      → Trees productions (Nonterminal n ∷ symbols) word

-- a derivation tree of the nonterminal has leaves that spell the word
abbrev pub Derives : List Production → ℕ → Word → Type 0
Derives productions n word = Trees productions (Nonterminal n ∷ []) word

-- the word is in the language of the grammar
abbrev pub IsWord : GrammarDefinition → Word → Type 0
IsWord g word = Derives g.productions g.start word

-- no word that begins with the word, itself included, is one of the grammar
abbrev pub IsHopeless : GrammarDefinition → Word → Type 0
IsHopeless g word = (more : Word) → IsWord g (word ++ more) → ⊥

-- the nonterminal spells some word of these letters
abbrev pub DerivesOf : List Production → ℕ → ℕ → Type 0
DerivesOf productions letters n = (word : Word) × All (IsBitSet letters) word × Derives productions n word

-- the nonterminal spells some word
abbrev pub DerivesSome : List Production → ℕ → Type 0
DerivesSome productions n = (word : Word) × Derives productions n word

-- the nonterminal is the left side of a production, or one of its symbols
abbrev pub IsIn : List Production → ℕ → Type 0
IsIn productions n = (p : Production) × Contains productions p × ((p.left ≡ n) ⊎ Contains p.symbols (Nonterminal n))
