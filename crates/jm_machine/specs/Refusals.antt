-- The first fault so far, and what each property is compiled of.
use Rattle.std.specs.Prelude.{ℕ, ◌≡◌, ◌<◌, ◌≤◌, ◌^◌, Bool, List, [], All, Option, Some, None, length, nat_le, slice_get, if◌then◌else◌}
use Rattle.jm_model.specs.Words.{Text}
use Rattle.jm_model.specs.declared.fault.SpecFault.{SpecFault}
use Rattle.jm_text.specs.declared.token.Token.{Token}
use Rattle.jm_events.specs.Events.{EventDefinitions}
use Rattle.jm_goal.specs.Goals.{most_handlers}
use Rattle.jm_spec.specs.Trees.{PropertyFacts}
use Rattle.jm_machine.specs.declared.formula.Formula.{Formula}
use Rattle.jm_machine.specs.Formulas.{category_names}
use Rattle.jm_machine.specs.FirstRefusals.{step_of_fault}
use Rattle.jm_machine.specs.Handlers.{handler_names, duplicate_fault, category_fault, binding_fault, resetting_handlers}
use Rattle.jm_machine.specs.PropertyMeanings.{property_rules_of}
use Rattle.jm_machine.specs.CompiledProperties.{CompiledProperty}

-- of two faults the later one only where its step is an earlier one
abbrev pub earlier_of : Option SpecFault → SpecFault → SpecFault
earlier_of None later = later
earlier_of (Some fault) later = if nat_le (step_of_fault fault) (step_of_fault later) then fault else later

module _ (bytes : Text) (full_binding : Bool) (tokens : List Token) where
  -- the handlers of a property that has this formula are few, and no step of them has a fault
  pub record IsHandled (p : PropertyFacts) (formula : Formula) : Type 0 where
    pub few : length p.handlers ≤ most_handlers
    pub distinct : duplicate_fault bytes [] p.handlers ≡ None
    pub known : category_fault bytes (category_names formula) p.handlers ≡ None
    pub bound : binding_fault bytes full_binding tokens p.handlers ≡ None

  module _ (table : EventDefinitions) where
    -- the property that has this formula is compiled
    pub record IsPart (p : PropertyFacts) (formula : Formula) (part : CompiledProperty) : Type 0 where
      pub rules : part.definition ≡ property_rules_of table full_binding formula (handler_names bytes p.handlers)
          (resetting_handlers bytes tokens p.handlers)
      pub fit : All (λ mask. mask < 2 ^ length table.parameters) part.definition.masks

    -- the properties that have these formulas are compiled, one by one
    pub record AreParts (ps : List PropertyFacts) (fs : List Formula) (parts : List CompiledProperty) : Type 0 where
      pub count : length parts ≡ length ps
      pub each : (k : ℕ) (p : PropertyFacts) (f : Formula) (part : CompiledProperty) → slice_get ps k ≡ Some p
          → slice_get fs k ≡ Some f → slice_get parts k ≡ Some part → IsPart p f part
