-- What charts are, and which word a chart stands for.
use Rattle.std.specs.Prelude.{ℕ, ◌≡◌, ◌≤◌, ◌-◌, ◌↔◌, List, length, take, Contains, Some, IsBitSet, slice_get}
use Rattle.jm_model.specs.Words.{Word, Mask}
use Rattle.jm_grammar.specs.Grammars.{GrammarDefinition}
pub use Rattle.jm_grammar.specs.Grammars.{IsBelow, AreBelow}
use Rattle.jm_grammar.specs.Meanings.{DerivesOf, DerivesSome, IsIn}
use Rattle.jm_earley.specs.declared.item.Item.{Item}
use Rattle.jm_earley.specs.declared.letter_set.LetterSet.{LetterSet}
use Rattle.jm_earley.specs.declared.earley_set.EarleySet.{EarleySet}
use Rattle.jm_earley.specs.Items.{IsItemSet}
use Rattle.jm_earley.specs.Kept.{place_at, HasPlaceAt, AreLinked, IsFollowedBy}
use Rattle.jm_earley.specs.Growth.{IsClosure}
use Rattle.jm_earley.specs.AwaitIndex.{IsWaiting}
use Rattle.jm_earley.specs.EarleySets.{AreFutures, AreEarlier}

-- A grammar, the set of parameters of each letter, and the sets of letters for which a chart keeps what may follow.
pub record ChartsDefinition : Type 0 where
  pub grammar : GrammarDefinition
  pub params : List Mask
  pub letter_sets : List LetterSet

-- The places that it keeps.
pub record ChartDefinition : Type 0 where
  pub places : List EarleySet

-- Each nonterminal spells a word, save perhaps the start; the letters have parameters, and are 32 at most; and the set
-- is that of the nonterminals that spell the empty word.
pub record IsReduced (g : GrammarDefinition) (params : List Mask) (nullable : ℕ) : Type 0 where
  pub spell : (n : ℕ) → IsIn g.productions n → DerivesSome g.productions n
  pub letters : AreBelow g.productions (length params)
  pub few : length params ≤ 32
  pub empty : (n : ℕ) → IsBitSet nullable n ↔ DerivesOf g.productions 0 n

-- the items of each place that is kept are those of the front of the word up to there
abbrev pub AreItemSets : GrammarDefinition → Word → List EarleySet → Type 0
AreItemSets g word kept =
    (position : ℕ) (p : EarleySet) → place_at kept position ≡ Some p → IsItemSet g (take position word) p.items

module _ (charts : ChartsDefinition) where
  -- The place has the items of the word, by the nonterminals that they await too, and what may follow it.
  pub record IsPlaceOf (word : Word) (p : EarleySet) : Type 0 where
    pub items : IsItemSet charts.grammar word p.items
    pub waiting : IsWaiting charts.grammar p.items p.waiting
    pub futures : AreFutures charts.grammar charts.letter_sets word p.futures

  -- The chart stands for the word: its last place is that at the word's end; each place that it keeps is that of a
  -- front of the word; it keeps each place where an item of one of them began; and none that its last place doesn't
  -- reach.
  pub record IsChartOf (word : Word) (chart : ChartDefinition) : Type 0 where
    pub last : EarleySet
    pub ends : slice_get chart.places (length chart.places - 1) ≡ Some last
    pub here : place_at chart.places (length word) ≡ Some last
    pub each : (position : ℕ) (p : EarleySet) → place_at chart.places position ≡ Some p → (position ≤ length word)
        × IsPlaceOf (take position word) p
    pub closed : (position : ℕ) (p : EarleySet) → place_at chart.places position ≡ Some p → (x : Item)
        → Contains p.items x → HasPlaceAt chart.places x.origin
    pub linked : AreLinked chart.places

module _ (charts : ChartsDefinition) (earlier : List EarleySet) (position : ℕ) where
  -- The place has this position and these items, and what may follow where these are the items after earlier places.
  pub record IsPlaceWith (items : List Item) (p : EarleySet) : Type 0 where
    pub position_is : p.position ≡ position
    pub items_are : p.items ≡ items
    pub waits : IsWaiting charts.grammar items p.waiting
    pub follows : (word : Word) → IsItemSet charts.grammar word items
        → AreEarlier charts.grammar charts.letter_sets word earlier
        → AreFutures charts.grammar charts.letter_sets word p.futures

  -- The chart has the place of what the rules make of the first items, and those of the earlier places that it reaches.
  pub record IsChartWith (first : List Item) (chart : ChartDefinition) : Type 0 where
    pub place : EarleySet
    pub closure : IsClosure charts.grammar earlier position first place.items
    pub place_is : IsPlaceWith place.items place
    pub follows : IsFollowedBy earlier place chart.places
