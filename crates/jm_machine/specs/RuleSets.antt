-- Compiled rules: what a specification means, with what runs each of its properties.
use Rattle.std.specs.Prelude.{ℕ, ◌≡◌, ◌≤◌, ◌<◌, List, [], ◌∷◌, Option, Some, None, length, map, slice_get}
use Rattle.jm_model.specs.Words.{Text}
use Rattle.jm_goal.specs.Goals.{most_handlers}
use Rattle.jm_spec.specs.Faults.{most_properties}
use Rattle.jm_machine.specs.CompiledProperties.{CompiledProperty}
use Rattle.jm_machine.specs.Meanings.{PropertyDefinition, RuleDefinition, handler_count, rules_about}
use Rattle.jm_machine.specs.HandlerNames.{names_of}

-- the rules, and what runs their properties, one by one
pub record CompiledRules : Type 0 where
  pub definition : RuleDefinition
  pub parts : List CompiledProperty

-- the property that is run
abbrev pub property_of : CompiledProperty → PropertyDefinition
property_of c = record {
  formula = c.definition.formula;
  handlers = c.definition.handlers;
  resets = c.definition.resets;
}

-- the rules of these properties, of which all have the letters of the first
abbrev pub rules_with : CompiledProperty → List CompiledProperty → RuleDefinition
rules_with first others = record {
  masks = first.definition.masks;
  creation = first.definition.creation;
  must_bind = first.definition.must_bind;
  properties = map property_of (first ∷ others);
}

-- the properties have the same letters, of which the same may come first, and the same parameters have to be bound
pub record IsAlike (one other : CompiledProperty) : Type 0 where
  pub masks : other.definition.masks ≡ one.definition.masks
  pub creation : other.definition.creation ≡ one.definition.creation
  pub must_bind : other.definition.must_bind ≡ one.definition.must_bind

-- the rules are those of their parts, 1 to 16, which have at most 16 handlers together
pub record IsRuleSet (r : CompiledRules) : Type 0 where
  pub some : 0 < length r.parts
  pub few : length r.parts ≤ most_properties
  pub properties : r.definition.properties ≡ map property_of r.parts
  pub about : (k : ℕ) (part : CompiledProperty) → slice_get r.parts k ≡ Some part
      → rules_about r.definition (property_of part) ≡ part.definition
  pub handlers : handler_count r.definition.properties ≤ most_handlers

-- where there are several, the handlers have these names
abbrev pub AreNames : CompiledProperty → List CompiledProperty → Option (List Text) → Type 0
AreNames first others None = others ≡ []
AreNames first others (Some names) = names ≡ names_of (rules_with first others)

-- there are at most 16 properties and at most 16 handlers, all of the same letters, and the handlers have these names
pub record AreRules (first : CompiledProperty) (others : List CompiledProperty)
    (given : Option (List Text)) : Type 0 where
  pub alike : (k : ℕ) (other : CompiledProperty) → slice_get others k ≡ Some other → IsAlike first other
  pub properties : length others < most_properties
  pub handlers : handler_count (map property_of (first ∷ others)) ≤ most_handlers
  pub names : AreNames first others given
