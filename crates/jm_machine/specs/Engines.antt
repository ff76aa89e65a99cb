-- What runs a property, and where words lead in it.
use Rattle.std.specs.Prelude.{ℕ, ◌≡◌, ◌<◌, ◌↔◌, Bool, true, false, List, All, length, map}
use Rattle.jm_model.specs.Words.{Word, Mask}
use Rattle.jm_events.specs.Events.{EventDefinition}
use Rattle.jm_table.specs.Tables.{Transitions, IsWord, IsInGroup, state_after_of}
use Rattle.jm_table.specs.Minimal.{IsReduced}
use Rattle.jm_grammar.specs.Grammars.{IsWithin}
use Rattle.jm_grammar.specs.Categories.{GrammarHolds}
use Rattle.jm_earley.specs.Charts.{AreBelow, IsChartOf}
use Rattle.jm_machine.specs.declared.engine.Engine.{Engine}
use Rattle.jm_machine.specs.declared.engine.Engine.TheVariants.{States, Parses}
use Rattle.jm_machine.specs.declared.place.Place.{Place}
use Rattle.jm_machine.specs.declared.place.Place.TheVariants.{State, Parse}
use Rattle.jm_machine.specs.declared.formula.Formula.{Formula}
use Rattle.jm_machine.specs.declared.formula.Formula.TheVariants.{Grammatical, GrammaticalSuffix}
use Rattle.jm_machine.specs.Formulas.{category_names, is_grammar, CategoryHolds}

-- how many letters there are, and how many categories
abbrev pub letters_of_engine : Engine → ℕ
letters_of_engine (States t) = t.letters
letters_of_engine (Parses c) = length c.params

abbrev pub categories_of_engine : Engine → ℕ
categories_of_engine (States t) = length t.groups
categories_of_engine (Parses c) = 2

-- it is the charts of a grammar
abbrev pub is_parsing : Engine → Bool
is_parsing (States t) = false
is_parsing (Parses c) = true

-- no two states of a table agree in groups after all words
abbrev pub IsMinimal : Engine → Type 0
IsMinimal (States t) = IsReduced t
IsMinimal (Parses c) = Unit {0}

-- charts know the letters by these parameters
abbrev pub HasParams : List Mask → Engine → Type 0
HasParams masks (States t) = Unit {0}
HasParams masks (Parses c) = c.params ≡ masks

-- the word leads to the state, or to the chart
abbrev pub IsPlaceOf : Engine → Place → Word → Type 0
IsPlaceOf (States t) (State s) word = IsWord t word × (s ≡ state_after_of t word)
IsPlaceOf (Parses c) (Parse chart) word = All (λ letter. letter < length c.params) word × IsChartOf c word chart
IsPlaceOf _ _ word = ⊥

-- the category of this number holds of the word, by what runs the property
abbrev pub EngineHolds : Engine → ℕ → Word → Type 0
EngineHolds (States t) category word = IsInGroup t (state_after_of t word) category
EngineHolds (Parses c) category word = GrammarHolds c.grammar category word

-- each letter of a grammar is below this number, and each nonterminal below 31 where the rule may begin anywhere
abbrev pub HasLetters : ℕ → Formula → Type 0
HasLetters letters (Grammatical g) = AreBelow g.productions letters
HasLetters letters (GrammaticalSuffix g) = AreBelow g.productions letters × IsWithin 31 g
HasLetters letters _ = Unit {0}

-- after each word of its letters that isn't empty, the categories hold by what runs the property where they hold of the
-- word
abbrev pub IsCompiled : Formula → Engine → Type 0
IsCompiled formula engine =
    (word : Word) → All (λ letter. letter < letters_of_engine engine) word → 0 < length word → (category : ℕ)
    → category < length (category_names formula)
    → EngineHolds engine category word ↔ CategoryHolds formula (letters_of_engine engine) category word

-- it is a table of the same groups after each word, in which no two states agree
pub record IsMinimised (t : Transitions) (engine : Engine) : Type 0 where
  pub letters : letters_of_engine engine ≡ t.letters
  pub categories : categories_of_engine engine ≡ length t.groups
  pub same : (word : Word) → IsWord t word → (category : ℕ)
      → EngineHolds engine category word ↔ IsInGroup t (state_after_of t word) category
  pub minimal : IsMinimal engine
  pub kind : is_parsing engine ≡ false

-- What runs a formula over these events: each event is a letter, each category is known, a table is minimal, and charts
-- are for a grammar alone.
pub record IsEngineOf (events : List EventDefinition) (formula : Formula) (engine : Engine) : Type 0 where
  pub letters : letters_of_engine engine ≡ length events
  pub categories : categories_of_engine engine ≡ length (category_names formula)
  pub compiled : IsCompiled formula engine
  pub minimal : IsMinimal engine
  pub kind : is_parsing engine ≡ is_grammar formula
  pub params : HasParams (map (λ e. e.mask) events) engine
