-- The items of a word (Earley 1970).
use Rattle.std.specs.Prelude.{ℕ, ◌≡◌, ◌≤◌, ◌+◌, ◌==◌, ◌↔◌, List, [], ◌∷◌, ◌++◌, Option, Some, None, option_and_then, Contains, length, take, slice_get, if◌then◌else◌}
use Rattle.jm_model.specs.Words.{Word}
use Rattle.jm_grammar.specs.declared.grammar.GrammarSymbol.{GrammarSymbol}
use Rattle.jm_grammar.specs.declared.grammar.GrammarSymbol.TheVariants.{Nonterminal}
use Rattle.jm_grammar.specs.declared.grammar.Production.{Production}
use Rattle.jm_grammar.specs.Grammars.{GrammarDefinition}
use Rattle.jm_grammar.specs.Meanings.{Trees}
use Rattle.jm_earley.specs.declared.item.Item.{Item}

-- The nonterminal is awaited after the word: from the start on, symbols are derived that spell the word, and the
-- nonterminal comes next.
pub data IsAwaited (productions : List Production) (start : ℕ) : Word → ℕ → Type 0 where
  at_start : IsAwaited productions start [] start
  inside : (before spelled word : Word) (p : Production) (front : List GrammarSymbol) (n : ℕ)
      (back : List GrammarSymbol)
      → IsAwaited productions start before p.left
      → Contains productions p
      → p.symbols ≡ front ++ Nonterminal n ∷ back
      → Trees productions front spelled
      → word ≡ before ++ spelled
      → IsAwaited productions start word n

-- the item with one symbol more before its dot
abbrev pub advanced : Item → Item
advanced item = record item { dot = item.dot + 1 }

module _ (g : GrammarDefinition) where
  -- The item is one of the word's: its production's left side is awaited after the front of the word up to its origin,
  -- and the symbols before its dot spell the rest.
  pub record IsItem (word : Word) (item : Item) : Type 0 where
    pub production : Production
    pub found : slice_get g.productions item.production ≡ Some production
    pub dot : item.dot ≤ length production.symbols
    pub before : Word
    pub spelled : Word
    pub word_is : word ≡ before ++ spelled
    pub origin : length before ≡ item.origin
    pub awaited : IsAwaited g.productions g.start before production.left
    pub trees : Trees g.productions (take item.dot production.symbols) spelled

  -- the items are those of the word, and no others
  abbrev pub IsItemSet : Word → List Item → Type 0
  IsItemSet word items = (item : Item) → Contains items item ↔ IsItem word item

  -- the symbol after the item's dot
  abbrev pub symbol_after : Item → Option GrammarSymbol
  symbol_after item = option_and_then (λ p. slice_get p.symbols item.dot) (slice_get g.productions item.production)

  -- the left side of an item whose dot is at the end
  abbrev pub finished_left : Item → Option ℕ
  finished_left item = option_and_then (λ p. if item.dot == length p.symbols then Some p.left
      else None) (slice_get g.productions item.production)

  -- the item spells a whole word: it began at the front with a production of the start, and its dot is at the end
  abbrev pub IsWhole : Item → Type 0
  IsWhole item = (item.origin ≡ 0) × (finished_left item ≡ Some g.start)
