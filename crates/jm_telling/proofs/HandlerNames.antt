-- The handlers of a specification have names of their own.
use Rattle.std.proofs.Common.{◌≡◌, ℕ, ◌≤◌, Bool, true, false, cond, List, [], ◌∷◌, ◌++◌, inl, inr, map, length, Option, Some, None, refl, sym, ap, subst, arith, append-nil, append_assoc}
use Rattle.std.specs.Prelude.{is_some}
use Rattle.std.specs.List.{list_any}
use Rattle.std.specs.Str.{bytes_eq}
use Rattle.std.proofs.lemmas.Bool.{cases_lt, lt-ltb}
use Rattle.std.proofs.lemmas.List.{length-map}
use Rattle.jm_model.specs.declared.fault.Counted.TheVariants.{Properties}
use Rattle.jm_model.specs.declared.fault.SpecFault.{SpecFault}
use Rattle.jm_model.specs.declared.fault.SpecFault.TheVariants.{TooMany, DuplicateHandler}
use Rattle.jm_text.specs.declared.token.Token.{Token}
use Rattle.jm_events.specs.Events.{EventDefinitions}
use Rattle.jm_reading.specs.Tokens.{name_of}
use Rattle.jm_reading.specs.Faults.{or_else, fault_of}
use Rattle.jm_spec.specs.declared.property.HandlerText.{HandlerText}
use Rattle.jm_spec.specs.declared.property.Property.{Property}
use Rattle.jm_spec.specs.declared.frame.Frame.{Frame}
use Rattle.jm_spec.specs.Faults.{modifier_fault, advice_fault, property_fault, logic_fault, table_of, frame_fault}
use Rattle.jm_spec.specs.Trees.{PropertyFacts, properties_of, TellsProperties}
use Rattle.jm_machine.specs.declared.formula.Formula.{Formula}
use Rattle.jm_machine.specs.Handlers.{handler_names, count_fault, duplicate_fault, duplicates_fault, categories_fault, bindings_fault, handlers_fault}
use Rattle.jm_machine.specs.HandlerNames.{names_of}
use Rattle.jm_machine.specs.Meanings.{PropertyDefinition}
use Rattle.jm_machine.specs.Compiling.{AreFormulas, properties_said}
use Rattle.jm_print.specs.Told.{AreNames}
use Rattle.jm_inputs.specs.Specifications.{Specification, IsSpecification}
use Rattle.jm_inputs.proofs.OneReadingLemmas.{never_some}
use Rattle.jm_telling.proofs.NameLists.{no_names, name_more, plain_name}
use Rattle.jm_telling.proofs.NumberedNames.{EachNames, names_named}

-- handlers after these, of which none is for a category of an earlier one
distinct_handlers : (bytes : List ℕ) (earlier : List (List ℕ)) (hs : List HandlerText) → AreNames earlier → duplicate_fault bytes earlier hs ≡ None → AreNames (earlier ++ handler_names bytes hs)
distinct_handlers bytes earlier [] before none = subst AreNames (sym (append-nil earlier)) before
distinct_handlers bytes earlier (h ∷ hs) before none =
    by_case (list_any (bytes_eq (name_of bytes h.category)) earlier) refl (λ more. distinct_handlers bytes (earlier ++ name_of bytes h.category ∷ []) hs more) none
  where
    by_case : (b : Bool) → list_any (bytes_eq (name_of bytes h.category)) earlier ≡ b
        → (AreNames (earlier ++ name_of bytes h.category ∷ []) → duplicate_fault bytes (earlier ++ name_of bytes h.category ∷ []) hs ≡ None → AreNames ((earlier ++ name_of bytes h.category ∷ []) ++ handler_names bytes hs))
        → cond b (Some (DuplicateHandler h.category.line)) (duplicate_fault bytes (earlier ++ name_of bytes h.category ∷ []) hs) ≡ None
        → AreNames (earlier ++ name_of bytes h.category ∷ handler_names bytes hs)
    by_case true known rest none = absurd cc
    by_case false new rest none =
        subst AreNames (append_assoc earlier (name_of bytes h.category ∷ []) (handler_names bytes hs))
        (rest (name_more earlier (name_of bytes h.category) new before (plain_name bytes h.category)) none)

first_none : (a b : Option SpecFault) → or_else a b ≡ None → a ≡ None
first_none None b e = refl
first_none (Some fault) b e = absurd cc

next_none : (a b : Option SpecFault) → or_else a b ≡ None → b ≡ None
next_none None b e = e
next_none (Some fault) b e = absurd cc

-- the handlers of properties without a fault
each_named : (bytes : List ℕ) (tokens : List Token) (table : EventDefinitions) (suffix : Bool) (ps : List PropertyFacts) (fs : List Formula) → AreFormulas bytes tokens table suffix ps fs → duplicates_fault bytes ps ≡ None
    → EachNames (map (λ (p : PropertyDefinition). p.handlers) (properties_said bytes tokens ps fs))
each_named bytes tokens table suffix [] [] read none = tt
each_named bytes tokens table suffix [] (f ∷ fs) read none = absurd read
each_named bytes tokens table suffix (p ∷ ps) [] read none = absurd read
each_named bytes tokens table suffix (p ∷ ps) (f ∷ fs) read none = (
  distinct_handlers bytes [] p.handlers no_names (first_none (duplicate_fault bytes [] p.handlers) (duplicates_fault bytes ps) none),
  each_named bytes tokens table suffix ps fs read.1 (next_none (duplicate_fault bytes [] p.handlers) (duplicates_fault bytes ps) none),
)

no_duplicates : (bytes : List ℕ) (full_binding : Bool) (tokens : List Token) (ps : List PropertyFacts) (fs : List Formula) → handlers_fault bytes full_binding tokens ps fs ≡ None → duplicates_fault bytes ps ≡ None
unfolding handlers_fault
no_duplicates bytes full_binding tokens ps fs none =
    let later = or_else (categories_fault bytes ps fs) (bindings_fault bytes full_binding tokens ps) in
    first_none (duplicates_fault bytes ps) later (next_none (count_fault ps) (or_else (duplicates_fault bytes ps) later) none)

-- ---- there are at most 16 properties

few_of : (ps : List Property) → property_fault ps ≡ None → length ps ≤ 16
few_of [] none = absurd cc
few_of (p ∷ ps) none = elim (cases_lt 16 (length (p ∷ ps))) [
  | inl more ↦ absurd (never_some (sym (subst (λ (b : Bool). cond b (Some (TooMany Properties)) None ≡ None) (lt-ltb 16 (length (p ∷ ps)) more) none)))
  | inr few ↦ few
]

few_in : (bytes : List ℕ) (frame : Frame) → frame_fault bytes frame ≡ None → length frame.properties ≤ 16
unfolding frame_fault
few_in bytes frame none =
    let tables = fault_of (table_of bytes frame.params frame.events) in
    let logics = or_else (logic_fault bytes frame.properties) tables in
    let counts = or_else (property_fault frame.properties) logics in
    few_of frame.properties
    (first_none (property_fault frame.properties) logics (next_none (advice_fault frame.events) counts (next_none (modifier_fault frame.modifiers) (or_else (advice_fault frame.events) counts) none)))

length_told : (bytes : List ℕ) (ps : List Property) (facts : List PropertyFacts) → TellsProperties bytes ps facts → length facts ≡ length ps
length_told bytes [] [] told = refl
length_told bytes [] (f ∷ facts) told = absurd told
length_told bytes (p ∷ ps) [] told = absurd told
length_told bytes (p ∷ ps) (f ∷ facts) told = omega (arith, length_told bytes ps facts told.1)

length_said : (bytes : List ℕ) (tokens : List Token) (ps : List PropertyFacts) (fs : List Formula) → length (properties_said bytes tokens ps fs) ≤ length ps
length_said bytes tokens [] fs = omega arith
length_said bytes tokens (p ∷ ps) [] = omega arith
length_said bytes tokens (p ∷ ps) (f ∷ fs) = omega (arith, length_said bytes tokens ps fs)

-- the handlers of a specification
pub handlers_named : (bytes : List ℕ) (s : Specification) → IsSpecification bytes s → AreNames (names_of s.rules)
handlers_named bytes s is =
    let ps = properties_of is.tree in
    let said = properties_said bytes is.tokens ps is.rules.formulas in
    let categories = map (λ (p : PropertyDefinition). p.handlers) said in
    let few : length categories ≤ 16 =
    omega (arith, length-map said (λ (p : PropertyDefinition). p.handlers), length_said bytes is.tokens ps is.rules.formulas, length_told bytes is.told.told.0.properties ps is.told.told.3.properties, few_in bytes is.told.told.0 is.told.told.2) in
    subst AreNames (sym (ap names_of is.rules.rules))
    (names_named categories few (each_named bytes is.tokens is.tree.table (is_some is.tree.suffix) ps is.rules.formulas is.rules.read (no_duplicates bytes is.tree.full_binding is.tokens ps is.rules.formulas is.rules.handled)))
