-- What may still follow a word.
use Rattle.std.specs.Prelude.{ℕ, ◌≡◌, ◌≢◌, List, [], ◌∷◌, ◌++◌, All, Contains, IsBitSet, drop}
use Rattle.jm_model.specs.Words.{Word}
use Rattle.jm_grammar.specs.declared.grammar.GrammarSymbol.{GrammarSymbol}
use Rattle.jm_grammar.specs.declared.grammar.GrammarSymbol.TheVariants.{Nonterminal}
use Rattle.jm_grammar.specs.declared.grammar.Production.{Production}
use Rattle.jm_grammar.specs.Grammars.{GrammarDefinition}
use Rattle.jm_grammar.specs.Meanings.{Trees, Derives, IsWord}
use Rattle.jm_earley.specs.declared.item.Item.{Item}
use Rattle.jm_earley.specs.Items.{IsItem}

-- The rest may follow the nonterminal that is awaited after a word: nothing follows the start after no letter; and
-- inside of a production, what the symbols after the nonterminal spell is followed by what may follow the production's
-- left side where the production began.
pub data IsRest (productions : List Production) (start : ℕ) : Word → ℕ → Word → Type 0 where
  at_end : IsRest productions start [] start []
  within : (before spelled word behind follows rest : Word) (p : Production) (front : List GrammarSymbol) (n : ℕ)
      (back : List GrammarSymbol)
      → IsRest productions start before p.left follows
      → Contains productions p
      → p.symbols ≡ front ++ Nonterminal n ∷ back
      → Trees productions front spelled
      → Trees productions back behind
      → word ≡ before ++ spelled
      → rest ≡ behind ++ follows
      → IsRest productions start word n rest

-- the letters may follow a word by way of this item: the symbols after its dot spell a front of them, and the others
-- may follow its left side
pub record IsContinuation (g : GrammarDefinition) (word : Word) (item : Item) (more : Word) : Type 0 where
  pub is_item : IsItem g word item
  pub behind : Word
  pub follows : Word
  pub more_is : more ≡ behind ++ follows
  pub trees : Trees g.productions (drop item.dot is_item.production.symbols) behind
  pub rest : IsRest g.productions g.start is_item.before is_item.production.left follows

module _ (g : GrammarDefinition) (letters : ℕ) (word : Word) where
  -- some rest of these letters may follow the nonterminal after the word
  abbrev pub CanEnd : ℕ → Type 0
  CanEnd n = (rest : Word) × All (IsBitSet letters) rest × IsRest g.productions g.start word n rest

  -- and one that isn't empty
  abbrev pub CanGoOn : ℕ → Type 0
  CanGoOn n = (rest : Word) × All (IsBitSet letters) rest × IsRest g.productions g.start word n rest × (rest ≢ [])

  -- some word of one or more of these letters, put after the word, gives a word of the grammar
  abbrev pub CanBeContinued : Type 0
  CanBeContinued = (more : Word) × All (IsBitSet letters) more × IsWord g (word ++ more) × (more ≢ [])

-- the nonterminal spells some word of one or more of these letters
abbrev pub DerivesLetters : List Production → ℕ → ℕ → Type 0
DerivesLetters productions letters n =
    (word : Word) × All (IsBitSet letters) word × Derives productions n word × (word ≢ [])
