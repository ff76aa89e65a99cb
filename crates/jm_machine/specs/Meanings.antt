-- What a specification of several properties means.
use Rattle.std.specs.Prelude.{ℕ, ◌+◌, ◌-◌, ◌<◌, Bool, false, List, [], ◌∷◌, Contains, length, map, take, Option, Some, None, option_map, IsSomeAnd, slice_get, unwrap_or, nat_lt, if◌then◌else◌}
use Rattle.std.specs.List.{list_any}
use Rattle.std.specs.Option.{option_map_or}
use Rattle.jm_model.specs.Words.{Text, Word, Mask}
use Rattle.jm_model.specs.Meanings.{Meaning, IsHit}
use Rattle.jm_events.specs.Events.{EventDefinitions}
use Rattle.jm_machine.specs.declared.formula.Formula.{Formula}
use Rattle.jm_machine.specs.Formulas.{is_grammar}
use Rattle.jm_machine.specs.PropertyMeanings.{PropertyRules, Runs, is_failing_grammar, creation_letters, must_bind_of}

-- A property: its formula; the name of the category that each of its handlers is for; and the handlers that reset it,
-- by their numbers among its own.
pub record PropertyDefinition : Type 0 where
  pub formula : Formula
  pub handlers : List Text
  pub resets : List ℕ

-- The rules of a specification: the parameters of each letter; the creation letters; the parameters that a reported
-- instance has to bind; and the properties.
pub record RuleDefinition : Type 0 where
  pub masks : List Mask
  pub creation : List ℕ
  pub must_bind : Mask
  pub properties : List PropertyDefinition

-- what the rules say of one property
abbrev pub rules_about : RuleDefinition → PropertyDefinition → PropertyRules
rules_about r p = record {
  masks = r.masks;
  creation = r.creation;
  must_bind = r.must_bind;
  formula = p.formula;
  handlers = p.handlers;
  resets = p.resets;
}

-- some property is a grammar
abbrev pub has_grammar : List PropertyDefinition → Bool
has_grammar ps = list_any (λ (p : PropertyDefinition). is_grammar p.formula) ps

-- ---- the numbers of handlers, which go over all properties

abbrev pub handler_count : List PropertyDefinition → ℕ
handler_count [] = 0
handler_count (p ∷ ps) = length p.handlers + handler_count ps

-- the number of the first handler of property j
abbrev pub first_of : List PropertyDefinition → ℕ → ℕ
first_of ps j = handler_count (take j ps)

-- the property of handler k, and its number among the handlers of that property
abbrev pub place_of : List PropertyDefinition → ℕ → Option (ℕ × ℕ)
place_of [] k = None
place_of (p ∷ ps) k = if nat_lt k (length p.handlers) then Some (0, k)
    else option_map (λ (place : ℕ × ℕ). (place.0 + 1, place.1)) (place_of ps (k - length p.handlers))

-- What rules mean: handler k is one of a property, and runs after the words that it runs after by what the rules say of
-- that property.
abbrev pub rules_meaning : RuleDefinition → Meaning
rules_meaning r = record {
  letters = length r.masks;
  params = λ e. unwrap_or (slice_get r.masks e) 0;
  must_bind = r.must_bind;
  creation = r.creation;
  handlers = handler_count r.properties;
  property_of = λ k. option_map_or (λ (place : ℕ × ℕ). place.0) (place_of r.properties k) 0;
  Holds = λ word k. IsSomeAnd (place_of r.properties k)
      (λ (place : ℕ × ℕ). IsSomeAnd (slice_get r.properties place.0) (λ p. Runs (rules_about r p) word place.1));
  coarse_cut = λ j. option_map_or (λ p. is_failing_grammar (rules_about r p)) (slice_get r.properties j) false;
}

-- the word hits a handler of property j that resets the property
abbrev pub IsResetBy : RuleDefinition → ℕ → PropertyDefinition → Word → Type 0
IsResetBy r j p word =
    (i : ℕ) × (i < length p.handlers) × Contains p.resets i
    × IsHit (rules_meaning r) word (first_of r.properties j + i)

-- the rules of events and properties
abbrev pub rules_of : EventDefinitions → Bool → List PropertyDefinition → RuleDefinition
rules_of t full_binding properties = record {
  masks = map (λ e. e.mask) t.events;
  creation = creation_letters t;
  must_bind = must_bind_of t full_binding;
  properties = properties;
}
