-- Where no step over the handlers has a fault, none has one of a property.
use Rattle.std.proofs.Common.{◌≡◌, ℕ, zero, suc, ◌≤◌, Bool, true, false, Option, Some, None, List, [], ◌∷◌, length, slice_get, refl, ap, subst, arith}
use Rattle.std.specs.Prelude.{nat_le, if◌then◌else◌}
use Rattle.std.proofs.lemmas.Bool.{leb-true}
use Rattle.std.proofs.lemmas.Option.{same_Some, none-some}
use Rattle.jm_model.specs.declared.fault.Counted.TheVariants.{Handlers}
use Rattle.jm_model.specs.declared.fault.SpecFault.{SpecFault}
use Rattle.jm_model.specs.declared.fault.SpecFault.TheVariants.{TooMany}
use Rattle.jm_text.specs.declared.token.Token.{Token}
use Rattle.jm_reading.specs.Faults.{or_else}
use Rattle.jm_spec.specs.Trees.{PropertyFacts}
use Rattle.jm_machine.specs.declared.formula.Formula.{Formula}
use Rattle.jm_machine.specs.Formulas.{category_names}
use Rattle.jm_machine.specs.Handlers.{handlers_in, count_fault, first_fault, duplicate_fault, category_fault, binding_fault, duplicates_fault, categories_fault, bindings_fault, handlers_fault}
use Rattle.jm_machine.specs.Refusals.{IsHandled}

no_first : (one other : Option SpecFault) → or_else one other ≡ None → (one ≡ None) × (other ≡ None)
no_first None other none = (refl, none)
no_first (Some fault) other none = absurd cc

is_few : (few : Bool) → (if few then None else Some (TooMany Handlers)) ≡ None → few ≡ true
is_few true none = refl
is_few false none = absurd cc

few_in : (ps : List PropertyFacts) → count_fault ps ≡ None → handlers_in ps ≤ 16
few_in ps none = leb-true (handlers_in ps) 16 (is_few (nat_le (handlers_in ps) 16) none)

few_each : (ps : List PropertyFacts) (k : ℕ) (p : PropertyFacts) → slice_get ps k ≡ Some p → length p.handlers ≤ handlers_in ps
few_each [] k p at = absurd (none-some p at)
few_each (q ∷ ps) zero p at =
    let same : length q.handlers ≡ length p.handlers = ap (λ (x : PropertyFacts). length x.handlers) (same_Some q p at) in
    omega (arith, same)
few_each (q ∷ ps) (suc k) p at = omega (arith, few_each ps k p at)

none_each : (fault : PropertyFacts → Option SpecFault) (ps : List PropertyFacts) (k : ℕ) (p : PropertyFacts) → first_fault fault ps ≡ None → slice_get ps k ≡ Some p → fault p ≡ None
none_each fault [] k p none at = absurd (none-some p at)
none_each fault (q ∷ ps) zero p none at =
    subst (λ (x : PropertyFacts). fault x ≡ None) (same_Some q p at) (no_first (fault q) (first_fault fault ps) none).0
none_each fault (q ∷ ps) (suc k) p none at = none_each fault ps k p (no_first (fault q) (first_fault fault ps) none).1 at

known_each : (bytes : List ℕ) (ps : List PropertyFacts) (fs : List Formula) (k : ℕ) (p : PropertyFacts) (f : Formula) → categories_fault bytes ps fs ≡ None → slice_get ps k ≡ Some p → slice_get fs k ≡ Some f → category_fault bytes (category_names f) p.handlers ≡ None
known_each bytes [] fs k p f none at there = absurd (none-some p at)
known_each bytes (q ∷ ps) [] k p f none at there = absurd (none-some f there)
known_each bytes (q ∷ ps) (g ∷ fs) zero p f none at there =
    subst (λ (x : PropertyFacts). category_fault bytes (category_names f) x.handlers ≡ None) (same_Some q p at)
    (subst (λ (x : Formula). category_fault bytes (category_names x) q.handlers ≡ None) (same_Some g f there)
    (no_first (category_fault bytes (category_names g) q.handlers) (categories_fault bytes ps fs) none).0)
known_each bytes (q ∷ ps) (g ∷ fs) (suc k) p f none at there =
    known_each bytes ps fs k p f (no_first (category_fault bytes (category_names g) q.handlers) (categories_fault bytes ps fs) none).1 at there

module _ (bytes : List ℕ) (full_binding : Bool) (tokens : List Token) (ps : List PropertyFacts) (fs : List Formula) (none : handlers_fault bytes full_binding tokens ps fs ≡ None) where
  -- no step has a fault
  no_steps : (count_fault ps ≡ None) × (duplicates_fault bytes ps ≡ None) × (categories_fault bytes ps fs ≡ None) × (bindings_fault bytes full_binding tokens ps ≡ None)
  unfolding handlers_fault
  no_steps =
      let count = no_first (count_fault ps) (or_else (duplicates_fault bytes ps) (or_else (categories_fault bytes ps fs) (bindings_fault bytes full_binding tokens ps))) none in
      let distinct = no_first (duplicates_fault bytes ps) (or_else (categories_fault bytes ps fs) (bindings_fault bytes full_binding tokens ps)) count.1 in
      let known = no_first (categories_fault bytes ps fs) (bindings_fault bytes full_binding tokens ps) distinct.1 in
      (count.0, distinct.0, known.0, known.1)

  pub few_handlers : handlers_in ps ≤ 16
  few_handlers = few_in ps no_steps.0

  pub no_duplicate : (k : ℕ) (p : PropertyFacts) → slice_get ps k ≡ Some p → duplicate_fault bytes [] p.handlers ≡ None
  no_duplicate k p at = none_each (λ (q : PropertyFacts). duplicate_fault bytes [] q.handlers) ps k p no_steps.1 at

  pub handled_each : (k : ℕ) (p : PropertyFacts) (f : Formula) → slice_get ps k ≡ Some p → slice_get fs k ≡ Some f → IsHandled bytes full_binding tokens p f
  handled_each k p f at there =
      let few = few_handlers in
      let own = few_each ps k p at in
      record {
        few = omega (arith, few, own);
        distinct = no_duplicate k p at;
        known = known_each bytes ps fs k p f no_steps.2 at there;
        bound = none_each (λ (q : PropertyFacts). binding_fault bytes full_binding tokens q.handlers) ps k p no_steps.3 at;
      }
