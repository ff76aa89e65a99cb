-- Items by the nonterminal that they await.
use Rattle.std.specs.Prelude.{ℕ, ◌≡◌, ◌↔◌, List, [], Contains, Some, slice_index_or}
use Rattle.jm_grammar.specs.declared.grammar.GrammarSymbol.TheVariants.{Nonterminal}
use Rattle.jm_grammar.specs.Grammars.{GrammarDefinition}
use Rattle.jm_earley.specs.declared.item.Item.{Item}
use Rattle.jm_earley.specs.declared.earley_set.EarleySet.{EarleySet}
use Rattle.jm_earley.specs.Items.{symbol_after}
use Rattle.jm_earley.specs.Kept.{place_at}
use Rattle.jm_earley.specs.Growth.{IsStep}

-- no list has an item
abbrev pub IsEmpty : List (List Item) → Type 0
IsEmpty lists = (n : ℕ) → slice_index_or lists n [] ≡ []

module _ (g : GrammarDefinition) where
  -- list n has those of the items that await nonterminal n
  abbrev pub IsWaiting : List Item → List (List Item) → Type 0
  IsWaiting items lists = (n : ℕ) (x : Item)
      → Contains (slice_index_or lists n []) x ↔ (Contains items x × (symbol_after g x ≡ Some (Nonterminal n)))

  -- the lists of each place are those of its items
  abbrev pub AreWaiting : List EarleySet → Type 0
  AreWaiting kept = (position : ℕ) (p : EarleySet) → place_at kept position ≡ Some p → IsWaiting p.items p.waiting

  -- the rules make the item of x, if the lists are those of the items
  abbrev pub IsStepOver : List EarleySet → ℕ → Item → Item → Type 0
  IsStepOver kept place x made = AreWaiting kept → IsStep g kept place x made
