-- Compiled properties: what the rules say of a property, with what runs it.
use Rattle.std.specs.Prelude.{ℕ, ◌≡◌, ◌<◌, ◌≤◌, ◌==◌, ◌^◌, ◌⊎◌, Bool, not, List, Some, IsSomeAnd, IsBitSet, bit_and, length, map, filter, slice_get}
use Rattle.std.specs.List.{range_with_len}
use Rattle.jm_model.specs.Words.{Text, Word, Mask}
use Rattle.jm_events.specs.Names.{number_of}
use Rattle.jm_goal.specs.Goals.{GoalDefinition}
use Rattle.jm_machine.specs.declared.formula.Formula.{Formula}
use Rattle.jm_machine.specs.declared.engine.Engine.{Engine}
use Rattle.jm_machine.specs.Formulas.{category_names}
use Rattle.jm_machine.specs.Engines.{letters_of_engine, categories_of_engine, EngineHolds, IsCompiled, IsMinimal}
use Rattle.jm_machine.specs.PropertyMeanings.{PropertyRules}

-- the property, and what runs it
pub record CompiledProperty : Type 0 where
  pub definition : PropertyRules
  pub engine : Engine

-- it runs the property, with a letter for each mask, knows each category, and a table of it is minimal
pub record IsCompiledProperty (r : CompiledProperty) : Type 0 where
  pub letters : letters_of_engine r.engine ≡ length r.definition.masks
  pub categories : categories_of_engine r.engine ≡ length (category_names r.definition.formula)
  pub compiled : IsCompiled r.definition.formula r.engine
  pub minimal : IsMinimal r.engine

-- ---- the rules that a goal says

-- the numbers below another whose bits are set
abbrev pub has_bit : ℕ → ℕ → Bool
has_bit mask number = not (bit_and mask (2 ^ number) == 0)

abbrev pub numbers_of : ℕ → ℕ → List ℕ
numbers_of mask count = filter (has_bit mask) (range_with_len 0 count)

-- what masks, a formula, handled categories and a goal mean
abbrev pub definition_of : List Mask → Formula → List Text → GoalDefinition → PropertyRules
definition_of masks formula handlers goal = record {
  masks = masks;
  creation = numbers_of goal.creation (length masks);
  must_bind = goal.must_bind;
  formula = formula;
  handlers = handlers;
  resets = numbers_of goal.resets (length handlers);
}

-- there are at most 32 letters, the creation letters are some of them, the group of each handler is the number of its
-- category, and the handlers that reset are some of them
pub record IsGoalOf (masks : List Mask) (formula : Formula) (handlers : List Text)
    (goal : GoalDefinition) : Type 0 where
  pub few : length masks ≤ 32
  pub creation : (letter : ℕ) → IsBitSet goal.creation letter → letter < length masks
  pub groups : map Some goal.groups ≡ map (number_of (category_names formula)) handlers
  pub resets : (handler : ℕ) → IsBitSet goal.resets handler → handler < length handlers

-- a word may begin with the letter: its bit is set, or none is
abbrev pub may_begin : GoalDefinition → ℕ → Type 0
may_begin goal letter = (goal.creation ≡ 0) ⊎ IsBitSet goal.creation letter

-- ---- where handlers are hit

-- what runs the property says that the category of handler k holds of the word
abbrev pub IsHandledBy : CompiledProperty → Word → ℕ → Type 0
IsHandledBy r word k =
    IsSomeAnd (slice_get r.definition.handlers k)
    (λ name. IsSomeAnd (number_of (category_names r.definition.formula) name)
    (λ category. EngineHolds r.engine category word))
