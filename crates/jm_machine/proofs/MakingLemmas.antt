-- The property that is made of a formula and handlers.
use Rattle.std.proofs.Common.{Result, Ok, Err, IfOk, ◌≡◌, ℕ, ◌<◌, ◌≤◌, List, Option, Some, map, length, sym, ◌∙◌, ap, subst}
use Rattle.std.specs.Prelude.{IsBitSet, ◌↔◌, Bool, All, ◌^◌}
use Rattle.std.proofs.lemmas.List.{length-map}
use Rattle.jm_model.specs.declared.fault.SpecError.{SpecError}
use Rattle.jm_text.specs.declared.token.Token.{Token}
use Rattle.jm_events.specs.Names.{number_of}
use Rattle.jm_events.specs.Events.{EventDefinition, EventDefinitions, IsCreation}
use Rattle.jm_goal.specs.Goals.{GoalDefinition}
use Rattle.jm_spec.specs.Trees.{PropertyFacts}
use Rattle.jm_machine.specs.declared.formula.Formula.{Formula}
use Rattle.jm_machine.specs.declared.engine.Engine.{Engine}
use Rattle.jm_machine.specs.Engines.{IsEngineOf}
use Rattle.jm_machine.specs.Formulas.{category_names}
use Rattle.jm_machine.specs.Handlers.{handler_names, resetting_handlers}
use Rattle.jm_machine.specs.PropertyMeanings.{must_bind_of, property_rules_of}
use Rattle.jm_machine.specs.CompiledProperties.{CompiledProperty, definition_of, numbers_of, IsGoalOf, IsCompiledProperty}
use Rattle.jm_machine.specs.Refusals.{IsPart}
use Rattle.jm_machine.proofs.GoalLemmas.{same_letters, creation_below}

-- ---- the rules

module _ (t : EventDefinitions) (formula : Formula) (masks : List ℕ) (handlers : List (List ℕ)) (goal : GoalDefinition) (filled : masks ≡ map (λ e. e.mask) t.events) (creation : (k : ℕ) → IsBitSet goal.creation k ↔ IsCreation t k) where
  masks_each : length masks ≡ length t.events
  masks_each = ap length filled ∙ length-map t.events (λ (e : EventDefinition). e.mask)

  pub made_rules : (full : Bool) → goal.must_bind ≡ must_bind_of t full → definition_of masks formula handlers goal ≡ property_rules_of t full formula handlers (numbers_of goal.resets (length handlers))
  made_rules full bound =
      let letters = ap (numbers_of goal.creation) masks_each ∙ same_letters t goal.creation creation in
      λ i. record { masks = filled i; creation = letters i; must_bind = bound i; formula = formula; handlers = handlers; resets = numbers_of goal.resets (length handlers) }

  pub made_goal : (categories : List (List ℕ)) → categories ≡ category_names formula → map {A = ℕ} {B = Option ℕ} Some goal.groups ≡ map (number_of categories) handlers → length masks ≤ 32 → ((k : ℕ) → IsBitSet goal.resets k → k < length handlers) → IsGoalOf masks formula handlers goal
  made_goal categories named groups few there = record {
    few = few;
    creation = λ k set. subst (λ n. k < n) (sym masks_each) (creation_below t k ((creation k).0 set));
    groups = subst (λ cs. map {A = ℕ} {B = Option ℕ} Some goal.groups ≡ map (number_of cs) handlers) named groups;
    resets = there;
  }

  pub made_set : (engine : Engine) → IsEngineOf t.events formula engine → IsCompiledProperty (record { definition = definition_of masks formula handlers goal; engine = engine })
  made_set engine runs = record {
    letters = runs.letters ∙ sym masks_each;
    categories = runs.categories;
    compiled = runs.compiled;
    minimal = runs.minimal;
  }

-- the property that is made is that of the facts
pub part_told : (bytes : List ℕ) (tokens : List Token) (t : EventDefinitions) (full : Bool) (p : PropertyFacts) (formula : Formula) (result : Result CompiledProperty SpecError) (names : List (List ℕ)) (resets : List ℕ)
    → IfOk result (λ r. r.definition ≡ property_rules_of t full formula names resets) → IfOk result (λ r. All (λ mask. mask < 2 ^ length t.parameters) r.definition.masks)
    → names ≡ handler_names bytes p.handlers → resets ≡ resetting_handlers bytes tokens p.handlers → IfOk result (IsPart bytes full tokens t p formula)
part_told bytes tokens t full p formula (Err e) names resets rules fit named resetting = tt
part_told bytes tokens t full p formula (Ok r) names resets rules fit named resetting = record {
  rules = rules ∙ λ i. property_rules_of t full formula (named i) (resetting i);
  fit = fit;
}
