-- Which rules the tree of a specification says, and which fault it has: the steps of the formulas, of the handlers, and
-- of the formulas' tables.
use Rattle.std.specs.Prelude.{ℕ, ◌≡◌, ◌<◌, Bool, List, [], ◌∷◌, length, Some, None, slice_get, slice_range}
use Rattle.std.specs.Option.{is_some}
use Rattle.jm_model.specs.Words.{Text}
use Rattle.jm_model.specs.declared.fault.SpecFault.{SpecFault}
use Rattle.jm_model.specs.declared.fault.SpecError.{SpecError}
use Rattle.jm_model.specs.declared.fault.SpecError.TheVariants.{Bad, NoMemory}
use Rattle.jm_text.specs.declared.token.Token.{Token}
use Rattle.jm_events.specs.Events.{EventDefinitions}
use Rattle.jm_spec.specs.declared.tree.SpecTree.{SpecTree}
use Rattle.jm_spec.specs.Trees.{PropertyFacts, properties_of}
use Rattle.jm_machine.specs.declared.formula.Formula.{Formula}
use Rattle.jm_machine.specs.Formulas.{IsReadAs, IsRefusedIn, IsTableFault}
use Rattle.jm_machine.specs.FirstRefusals.{IsFirstRefusal}
use Rattle.jm_machine.specs.Handlers.{handler_names, handlers_fault, suffix_fault, resetting_handlers}
use Rattle.jm_machine.specs.Meanings.{PropertyDefinition, RuleDefinition, rules_of}

-- the tokens of a property's formula
abbrev pub formula_of : List Token → PropertyFacts → List Token
formula_of tokens p = slice_range tokens p.first p.last

-- `suffix` says whether the rules may begin anywhere.
module _ (bytes : Text) (tokens : List Token) (table : EventDefinitions) (suffix : Bool) where
  -- the property's formula is this one, or has this first fault
  abbrev pub IsFormula : PropertyFacts → Formula → Type 0
  IsFormula p formula = IsReadAs bytes (formula_of tokens p) table p.logic suffix formula

  abbrev pub IsRefusedFormula : PropertyFacts → SpecFault → Type 0
  IsRefusedFormula p fault = IsRefusedIn bytes (formula_of tokens p) table p.logic suffix fault

  -- the properties' formulas are these, one by one
  abbrev pub AreFormulas : List PropertyFacts → List Formula → Type 0
  AreFormulas [] [] = Unit {0}
  AreFormulas (p ∷ ps) (f ∷ fs) = IsFormula p f × AreFormulas ps fs
  AreFormulas _ _ = ⊥

-- none of these formulas has a fault in the making of its table, over so many letters
abbrev pub IsSettled : ℕ → List Formula → Type 0
IsSettled letters fs =
    (k : ℕ) (f : Formula) (fault : SpecFault) → slice_get fs k ≡ Some f → IsTableFault f letters fault → ⊥

-- The first fault in the making of the formulas' tables, over so many letters: that of the first formula that has one.
pub record IsFirstTableFault (letters : ℕ) (fs : List Formula) (fault : SpecFault) : Type 0 where
  pub number : ℕ
  pub formula : Formula
  pub there : slice_get fs number ≡ Some formula
  pub faulty : IsTableFault formula letters fault
  pub before : (i : ℕ) (f : Formula) (other : SpecFault) → i < number → slice_get fs i ≡ Some f
      → IsTableFault f letters other → ⊥

module _ (bytes : Text) (tokens : List Token) where
  -- what a property says that has this formula
  abbrev pub property_said : PropertyFacts → Formula → PropertyDefinition
  property_said p formula = record {
    formula = formula;
    handlers = handler_names bytes p.handlers;
    resets = resetting_handlers bytes tokens p.handlers;
  }

  -- what the properties say that have these formulas, one by one
  abbrev pub properties_said : List PropertyFacts → List Formula → List PropertyDefinition
  properties_said (p ∷ ps) (f ∷ fs) = property_said p f ∷ properties_said ps fs
  properties_said _ _ = []

  module _ (tree : SpecTree) where
    -- no step has a fault, and the tree says these rules
    pub record IsCompiledFrom (r : RuleDefinition) : Type 0 where
      pub formulas : List Formula
      pub read : AreFormulas bytes tokens tree.table (is_some tree.suffix) (properties_of tree) formulas
      pub handled : handlers_fault bytes tree.full_binding tokens (properties_of tree) formulas ≡ None
      pub suffixed : suffix_fault bytes tree.suffix (properties_of tree) ≡ None
      pub settled : IsSettled (length tree.table.events) formulas
      pub rules : r ≡ rules_of tree.table tree.full_binding (properties_said (properties_of tree) formulas)

    -- the first fault: that of the formulas, that of the handlers, that of `suffix`, or that of the making of the
    -- formulas' tables
    pub data IsFaultyTree (fault : SpecFault) : Type 0 where
      in_formulas : IsFirstRefusal (IsRefusedFormula bytes tokens tree.table (is_some tree.suffix))
          (properties_of tree) fault
          → IsFaultyTree fault
      in_handlers : (formulas : List Formula)
          → AreFormulas bytes tokens tree.table (is_some tree.suffix) (properties_of tree) formulas
          → handlers_fault bytes tree.full_binding tokens (properties_of tree) formulas ≡ Some fault
          → IsFaultyTree fault
      in_suffix : (formulas : List Formula)
          → AreFormulas bytes tokens tree.table (is_some tree.suffix) (properties_of tree) formulas
          → handlers_fault bytes tree.full_binding tokens (properties_of tree) formulas ≡ None
          → suffix_fault bytes tree.suffix (properties_of tree) ≡ Some fault
          → IsFaultyTree fault
      in_tables : (formulas : List Formula)
          → AreFormulas bytes tokens tree.table (is_some tree.suffix) (properties_of tree) formulas
          → handlers_fault bytes tree.full_binding tokens (properties_of tree) formulas ≡ None
          → suffix_fault bytes tree.suffix (properties_of tree) ≡ None
          → IsFirstTableFault (length tree.table.events) formulas fault
          → IsFaultyTree fault

    -- the tree has this first fault, unless memory is short
    abbrev pub IsNotCompiled : SpecError → Type 0
    IsNotCompiled NoMemory = Unit {0}
    IsNotCompiled (Bad fault) = IsFaultyTree fault
