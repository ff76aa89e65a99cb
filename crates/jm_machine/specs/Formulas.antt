-- The property of a specification, in whichever logic: its categories, when one holds of a word, and what tokens spell
-- it.
use Rattle.std.specs.Prelude.{ℕ, zero, suc, Bool, true, false, ◌≡◌, ◌<◌, List, ◌++◌, All}
use Rattle.jm_model.specs.Words.{Text, Word}
use Rattle.jm_model.specs.declared.fault.SpecFault.{SpecFault}
use Rattle.jm_model.specs.declared.fault.SpecFault.TheVariants.{TooManyStates}
use Rattle.jm_model.specs.declared.fault.SpecError.TheVariants.{Bad}
use Rattle.jm_text.specs.declared.token.Token.{Token}
use Rattle.jm_events.specs.Events.{EventDefinitions}
use Rattle.jm_spec.specs.declared.tree.Logic.{Logic}
use Rattle.jm_spec.specs.declared.tree.Logic.TheVariants.{Fsm, Ere, Cfg, Ptltl}
use Rattle.jm_machine.specs.declared.formula.Formula.{Formula}
use Rattle.jm_machine.specs.declared.formula.Formula.TheVariants.{Machine, Regular, RegularSuffix, Temporal, Grammatical, GrammaticalSuffix}
use Rattle.jm_fsm.specs.Categories as fsm
use Rattle.jm_fsm.specs.Readings as fsm_readings
use Rattle.jm_ere.specs.Categories as ere
use Rattle.jm_ere.specs.Readings as ere_readings
use Rattle.jm_ere.specs.Refusals.{FindsFault}
use Rattle.jm_ere.specs.Meanings.{InLanguage}
use Rattle.jm_ere.specs.Suffixes.{EndsIn, suffixed}
use Rattle.jm_ptltl.specs.Categories as past
use Rattle.jm_ptltl.specs.Readings as past_readings
use Rattle.jm_ptltl.specs.Tables.{IsCrowded}
use Rattle.jm_grammar.specs.Categories as grammar
use Rattle.jm_grammar.specs.Readings as grammar_readings
use Rattle.jm_grammar.specs.Meanings.{IsWord}

abbrev pub is_grammar : Formula → Bool
is_grammar (Grammatical g) = true
is_grammar (GrammaticalSuffix g) = true
is_grammar _ = false

-- the names of the categories; the number of a category is the place of its name
abbrev pub category_names : Formula → List Text
category_names (Machine m) = fsm.category_names m
category_names (Regular e) = ere.category_names
category_names (RegularSuffix e) = ere.category_names
category_names (Temporal f) = past.category_names
category_names (Grammatical g) = grammar.category_names
category_names (GrammaticalSuffix g) = grammar.category_names

-- Where the rule may begin anywhere, `match` holds of a word that ends in a word of the language, of a letter or more,
-- and `fail` of one of which no extension by letters below this number, itself included, does.
abbrev pub SuffixHolds : (Word → Type 0) → ℕ → ℕ → Word → Type 0
SuffixHolds L letters zero word = EndsIn L word
SuffixHolds L letters (suc zero) word =
    (more : Word) → All (λ letter. letter < letters) more → EndsIn L (word ++ more) → ⊥
SuffixHolds L letters (suc (suc category)) word = ⊥

-- the category holds of a word that isn't empty, over so many letters
abbrev pub CategoryHolds : Formula → ℕ → ℕ → Word → Type 0
CategoryHolds (Machine m) letters category word = fsm.FsmHolds m category word
CategoryHolds (Regular e) letters category word = ere.ExpressionHolds e letters category word
CategoryHolds (RegularSuffix e) letters category word = SuffixHolds (InLanguage e) letters category word
CategoryHolds (Temporal f) letters category word = past.PastHolds f category word
CategoryHolds (Grammatical g) letters category word = grammar.GrammarHolds g category word
CategoryHolds (GrammaticalSuffix g) letters category word = SuffixHolds (IsWord g) letters category word

-- The flag says whether the rule may begin anywhere, as where `suffix` stands.
module _ (bytes : Text) (tokens : List Token) (table : EventDefinitions) where
  -- the tokens spell this formula of the logic, without a fault
  abbrev pub IsReadAs : Logic → Bool → Formula → Type 0
  IsReadAs Fsm suffix (Machine m) = fsm_readings.IsReadFrom bytes tokens table m
  IsReadAs Ere false (Regular e) = ere_readings.IsReadFrom bytes tokens table e
  IsReadAs Ere true (RegularSuffix e) = ere_readings.IsReadFrom bytes tokens table e
  IsReadAs Ptltl suffix (Temporal f) = past_readings.IsReadFrom bytes tokens table f
  IsReadAs Cfg false (Grammatical g) = grammar_readings.IsReadFrom bytes tokens table false g
  IsReadAs Cfg true (GrammaticalSuffix g) = grammar_readings.IsReadFrom bytes tokens table true g
  IsReadAs _ _ _ = ⊥

  -- the tokens spell no formula of the logic, or one with this first fault
  abbrev pub IsRefusedIn : Logic → Bool → SpecFault → Type 0
  IsRefusedIn Fsm suffix fault = fsm_readings.IsRefused bytes tokens table (Bad fault)
  IsRefusedIn Ere suffix fault = ere_readings.IsRefused bytes tokens table (Bad fault)
  IsRefusedIn Ptltl suffix fault = past_readings.IsRefused bytes tokens table (Bad fault)
  IsRefusedIn Cfg suffix fault = grammar_readings.IsRefused bytes tokens table suffix (Bad fault)

-- this fault comes first in the making of the formula's table, over so many letters
abbrev pub IsTableFault : Formula → ℕ → SpecFault → Type 0
IsTableFault (Machine m) letters fault = ⊥
IsTableFault (Regular e) letters fault = FindsFault e letters fault
IsTableFault (RegularSuffix e) letters fault = FindsFault (suffixed e) letters fault
IsTableFault (Temporal f) letters fault = (fault ≡ TooManyStates) × IsCrowded f letters
IsTableFault (Grammatical g) letters fault = ⊥
IsTableFault (GrammaticalSuffix g) letters fault = ⊥
