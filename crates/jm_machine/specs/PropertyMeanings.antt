-- What one property of a specification means.
use Rattle.std.specs.Prelude.{ℕ, ◌^◌, ◌-◌, Bool, false, ◌&&◌, codes, List, Contains, length, map, filter, IsSomeAnd, slice_get, unwrap_or, if◌then◌else◌}
use Rattle.std.specs.List.{range_with_len, list_any}
use Rattle.std.specs.Str.{bytes_eq}
use Rattle.std.specs.Option.{option_map_or}
use Rattle.jm_model.specs.Words.{Text, Word, Mask}
use Rattle.jm_model.specs.Meanings.{Meaning, IsHit}
use Rattle.jm_events.specs.Names.{number_of}
use Rattle.jm_events.specs.Events.{EventDefinitions}
use Rattle.jm_machine.specs.declared.formula.Formula.{Formula}
use Rattle.jm_machine.specs.Formulas.{category_names, is_grammar, CategoryHolds}
use Rattle.jm_machine.specs.Rests.{IsAsked}

-- What the rules of a specification say of one property: the parameters of each letter; the creation letters; the
-- parameters that a reported instance has to bind; the formula; the name of the category that each handler of the
-- property is for; and the handlers that reset it, by their numbers among these.
pub record PropertyRules : Type 0 where
  pub masks : List Mask
  pub creation : List ℕ
  pub must_bind : Mask
  pub formula : Formula
  pub handlers : List Text
  pub resets : List ℕ

module _ (r : PropertyRules) where
  -- the category of this name holds of the word
  abbrev pub IsNamedCategory : Word → Text → Type 0
  IsNamedCategory word name = IsSomeAnd (number_of (category_names r.formula) name)
      (λ category. CategoryHolds r.formula (length r.masks) category word)

  -- the category of handler k holds of the word
  abbrev pub IsInCategory : Word → ℕ → Type 0
  IsInCategory word k = IsSomeAnd (slice_get r.handlers k) (IsNamedCategory word)

  -- the word resets the property: the category of a handler that resets it holds of the word
  abbrev pub Resets : Word → Type 0
  Resets word = (k : ℕ) × Contains r.resets k × IsInCategory word k

  -- handler k runs after the word, if that begins as it may: its category holds of what is left of the word since the
  -- last reset
  abbrev pub Runs : Word → ℕ → Type 0
  Runs word k = (asked : Word) × IsAsked Resets word asked × IsInCategory asked k

  -- the property is a grammar, and `fail` is handled
  abbrev pub is_failing_grammar : Bool
  is_failing_grammar = is_grammar r.formula && list_any (bytes_eq (codes "fail")) r.handlers

  -- what it means
  abbrev pub property_meaning : Meaning
  property_meaning = record {
    letters = length r.masks;
    params = λ e. unwrap_or (slice_get r.masks e) 0;
    must_bind = r.must_bind;
    creation = r.creation;
    handlers = length r.handlers;
    property_of = λ k. 0;
    Holds = Runs;
    coarse_cut = λ j. is_failing_grammar;
  }

  -- the word hits a handler that resets the property
  abbrev pub IsResetBy : Word → Type 0
  IsResetBy word = (k : ℕ) × Contains r.resets k × IsHit property_meaning word k

-- ---- what events, modifiers, a formula and handlers say

module _ (t : EventDefinitions) where
  -- the letters of the creation events
  abbrev pub is_creation : ℕ → Bool
  is_creation letter = option_map_or (λ e. e.creation) (slice_get t.events letter) false

  abbrev pub creation_letters : List ℕ
  creation_letters = filter is_creation (range_with_len 0 (length t.events))

  -- all parameters where the specification is for full bindings alone, else none
  abbrev pub must_bind_of : Bool → Mask
  must_bind_of full_binding = if full_binding then 2 ^ length t.parameters - 1 else 0

  abbrev pub property_rules_of : Bool → Formula → List Text → List ℕ → PropertyRules
  property_rules_of full_binding formula handlers resets = record {
    masks = map (λ e. e.mask) t.events;
    creation = creation_letters;
    must_bind = must_bind_of full_binding;
    formula = formula;
    handlers = handlers;
    resets = resets;
  }
