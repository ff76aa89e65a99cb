-- How the items of a place grow, rule by rule (Earley 1970; Aycock and Horspool 2002 for nonterminals that spell the
-- empty word).
use Rattle.std.specs.Prelude.{ℕ, ◌≡◌, ◌⊎◌, List, [], ◌∷◌, ◌++◌, Some, IsBitSet, Contains, slice_get}
use Rattle.jm_grammar.specs.declared.grammar.GrammarSymbol.{GrammarSymbol}
use Rattle.jm_grammar.specs.declared.grammar.GrammarSymbol.TheVariants.{Nonterminal}
use Rattle.jm_grammar.specs.declared.grammar.Production.{Production}
use Rattle.jm_grammar.specs.Grammars.{GrammarDefinition}
use Rattle.jm_grammar.specs.Meanings.{Derives}
use Rattle.jm_earley.specs.declared.item.Item.{Item}
use Rattle.jm_earley.specs.declared.earley_set.EarleySet.{EarleySet}
use Rattle.jm_earley.specs.Items.{symbol_after, finished_left, advanced}
use Rattle.jm_earley.specs.Kept.{place_at}

-- the items after one is added: it was there, or goes last
abbrev pub IsWithItem : List Item → Item → List Item → Type 0
IsWithItem old item new = (Contains old item × (new ≡ old)) ⊎ (new ≡ old ++ item ∷ [])

-- items keep their places, and what is new is P
pub record Grows (P : Item → Type 0) (old new : List Item) : Type 0 where
  pub kept : (k : ℕ) (x : Item) → slice_get old k ≡ Some x → slice_get new k ≡ Some x
  pub only : (x : Item) → Contains new x → Contains old x ⊎ P x

module _ (g : GrammarDefinition) (from : List Item) (symbol : GrammarSymbol) where
  -- the item is one of these, advanced over the symbol
  abbrev pub IsAdvancedOver : Item → Type 0
  IsAdvancedOver x = (y : Item) × Contains from y × (symbol_after g y ≡ Some symbol) × (x ≡ advanced y)

  -- each of these items before the symbol is there, advanced over it
  abbrev pub AreAdvancedOver : List Item → Type 0
  AreAdvancedOver items = (y : Item) → Contains from y → symbol_after g y ≡ Some symbol → Contains items (advanced y)

module _ (g : GrammarDefinition) (place : ℕ) where
  -- the item begins a production of the nonterminal at the place
  abbrev pub IsPrediction : ℕ → Item → Type 0
  IsPrediction n x =
      (number : ℕ) × (p : Production) × (slice_get g.productions number ≡ Some p) × (p.left ≡ n)
      × (x ≡ record { production = number; dot = 0; origin = place })

  -- each production of the nonterminal begins at the place
  abbrev pub ArePredicted : ℕ → List Item → Type 0
  ArePredicted n items =
      (number : ℕ) (p : Production) → slice_get g.productions number ≡ Some p → p.left ≡ n
      → Contains items (record { production = number; dot = 0; origin = place })

  -- what the nonterminals of a set stand for: their productions begin at the place
  abbrev pub IsPredictedSet : ℕ → List Item → Type 0
  IsPredictedSet predicted items = (n : ℕ) → IsBitSet predicted n → ArePredicted n items

-- at a place after those kept
module _ (g : GrammarDefinition) (kept : List EarleySet) (place : ℕ) where
  -- What the rules make of an item: the productions of the nonterminal that it awaits; the item itself over a
  -- nonterminal that spells the empty word; the items that awaited its left side, where it is finished.
  pub data IsStep (x : Item) (made : Item) : Type 0 where
    predicts : (n : ℕ) → symbol_after g x ≡ Some (Nonterminal n) → IsPrediction g place n made → IsStep x made
    skips : (n : ℕ) → symbol_after g x ≡ Some (Nonterminal n) → Derives g.productions n [] → made ≡ advanced x
        → IsStep x made
    completes : (n : ℕ) (from : EarleySet) → finished_left g x ≡ Some n → place_at kept x.origin ≡ Some from
        → IsAdvancedOver g from.items (Nonterminal n) made → IsStep x made

  -- all that the rules make of an item is there
  pub record IsWorked (items : List Item) (x : Item) : Type 0 where
    pub predicted : (n : ℕ) → symbol_after g x ≡ Some (Nonterminal n) → ArePredicted g place n items
    pub skipped : (n : ℕ) → symbol_after g x ≡ Some (Nonterminal n) → Derives g.productions n []
        → Contains items (advanced x)
    pub completed : (n : ℕ) (from : EarleySet) → finished_left g x ≡ Some n → place_at kept x.origin ≡ Some from
        → AreAdvancedOver g from.items (Nonterminal n) items

  -- the rules make the item from the first ones
  pub data IsMade (first : List Item) : Item → Type 0 where
    given : (x : Item) → Contains first x → IsMade first x
    stepped : (x made : Item) → IsMade first x → IsStep x made → IsMade first made

  -- The items are the first ones and what the rules make of them.
  pub record IsClosure (first items : List Item) : Type 0 where
    pub kept_first : (x : Item) → Contains first x → Contains items x
    pub worked : (x : Item) → Contains items x → IsWorked items x
    pub made : (x : Item) → Contains items x → IsMade first x
