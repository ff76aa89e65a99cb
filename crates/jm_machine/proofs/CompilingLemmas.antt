-- The rules of the properties that were compiled are those that the tree says, and which fault it has.
use Rattle.std.proofs.Common.{◌≡◌, ◌⊎◌, inl, inr, ℕ, zero, suc, ◌+◌, ◌<◌, ◌≤◌, ◌^◌, Bool, true, false, ◌||◌, Option, Some, None, List, [], ◌∷◌, ◌++◌, map, length, slice_get, refl, sym, ◌∙◌, ap, subst, arith, append_assoc}
use Rattle.std.specs.Prelude.{All, if◌then◌else◌}
use Rattle.std.specs.List.{list_any}
use Rattle.std.specs.Option.{is_some}
use Rattle.std.specs.Str.{bytes_eq}
use Rattle.std.proofs.lemmas.Bool.{false≢true}
use Rattle.std.proofs.lemmas.List.{append-nil, length-map}
use Rattle.std.proofs.lemmas.Option.{same_Some, none-some, slice_get_within}
use Rattle.jm_model.specs.declared.fault.SpecError.{SpecError}
use Rattle.jm_model.specs.declared.fault.SpecError.TheVariants.{Bad, NoMemory}
use Rattle.jm_model.specs.declared.fault.SpecFault.{SpecFault}
use Rattle.jm_model.specs.declared.fault.SpecFault.TheVariants.{DuplicateHandler}
use Rattle.jm_text.specs.declared.token.Token.{Token}
use Rattle.jm_reading.specs.Faults.{Refuses}
use Rattle.jm_reading.specs.Tokens.{name_of}
use Rattle.jm_events.specs.Events.{EventDefinitions}
use Rattle.jm_events.proofs.NameLemmas.{is_same_name}
use Rattle.jm_table.specs.Explorations.{IfBad}
use Rattle.jm_spec.specs.declared.property.HandlerText.{HandlerText}
use Rattle.jm_spec.specs.declared.tree.SpecTree.{SpecTree}
use Rattle.jm_spec.specs.Trees.{PropertyFacts, properties_of}
use Rattle.jm_machine.specs.declared.formula.Formula.{Formula}
use Rattle.jm_machine.specs.Handlers.{handler_names, resetting_handlers, handlers_in, duplicate_fault, handlers_fault, suffix_fault}
use Rattle.jm_machine.specs.HandlerNames.{AreDistinct, AreEachDistinct}
use Rattle.jm_machine.specs.PropertyMeanings.{PropertyRules, property_rules_of}
use Rattle.jm_machine.specs.Meanings.{PropertyDefinition, handler_count, rules_of}
use Rattle.jm_machine.specs.CompiledProperties.{CompiledProperty}
use Rattle.jm_machine.specs.RuleSets.{IsAlike, property_of, rules_with}
use Rattle.jm_machine.specs.FirstRefusals.{IsFirstRefusal}
use Rattle.jm_machine.specs.Compiling.{IsRefusedFormula, AreFormulas, IsFirstTableFault, IsSettled, property_said, properties_said, IsCompiledFrom, IsNotCompiled, in_formulas, in_handlers, in_suffix, in_tables}
use Rattle.jm_machine.specs.Refusals.{IsPart, AreParts}
use Rattle.jm_machine.proofs.ReadingLemmas.{count_formulas}
use Rattle.jm_machine.proofs.HandledLemmas.{few_handlers, no_duplicate}

-- ---- names without a duplicate

in_both : (xs ys : List (List ℕ)) (k : ℕ) (x : List ℕ) → slice_get (xs ++ ys) k ≡ Some x → (slice_get xs k ≡ Some x) ⊎ ((i : ℕ) × (k ≡ length xs + i) × (slice_get ys i ≡ Some x))
in_both [] ys k x at = inr (k, omega arith, at)
in_both (z ∷ xs) ys zero x at = inl at
in_both (z ∷ xs) ys (suc k) x at =
    elim (in_both xs ys k x at) [ inl here ↦ inl here | inr there ↦ inr (there.0, omega (arith, there.1), there.2) ]

-- what stands there is found
found : (names : List (List ℕ)) (name : List ℕ) (k : ℕ) → slice_get names k ≡ Some name → list_any (bytes_eq name) names ≡ false → ⊥
found [] name k at none = none-some name at
found (x ∷ names) name zero at none =
    let same : bytes_eq name x ≡ true = is_same_name name x (sym (same_Some x name at)) in
    first_test (bytes_eq name x) (list_any (bytes_eq name) names) same none
  where
    first_test : (a b : Bool) → a ≡ true → (a || b) ≡ false → ⊥
    first_test true b is none = false≢true (sym none)
    first_test false b is none = false≢true is
found (x ∷ names) name (suc k) at none = found names name k at (later_test (bytes_eq name x) (list_any (bytes_eq name) names) none)
  where
    later_test : (a b : Bool) → (a || b) ≡ false → b ≡ false
    later_test true b none = absurd (false≢true (sym none))
    later_test false b none = none

-- the only place of a list of one
only_place : (name x : List ℕ) (i : ℕ) → slice_get (name ∷ []) i ≡ Some x → (i ≡ 0) × (name ≡ x)
only_place name x zero at = (refl, same_Some name x at)
only_place name x (suc i) at = absurd (none-some x at)

new_distinct : (names : List (List ℕ)) (name : List ℕ) → AreDistinct names → list_any (bytes_eq name) names ≡ false → AreDistinct (names ++ name ∷ [])
new_distinct names name distinct none a b x at there =
    elim (in_both names (name ∷ []) a x at) [
      | inl one ↦ elim (in_both names (name ∷ []) b x there) [
        | inl other ↦ distinct a b x one other
        | inr last ↦
            let same = (only_place name x last.0 last.2).1 in
            absurd (found names name a (one ∙ ap (λ (z : List ℕ). Some z) (sym same)) none)
      ]
      | inr last ↦ elim (in_both names (name ∷ []) b x there) [
        | inl other ↦
            let same = (only_place name x last.0 last.2).1 in
            absurd (found names name b (other ∙ ap (λ (z : List ℕ). Some z) (sym same)) none)
        | inr end ↦
            let p = (only_place name x last.0 last.2).0 in
            let q = (only_place name x end.0 end.2).0 in
            omega (arith, p, q, last.1, end.1)
      ]
    ]

not_before : (before : Bool) (later : Option SpecFault) (fault : SpecFault) → (if before then Some fault else later) ≡ None → (before ≡ false) × (later ≡ None)
not_before true later fault none = absurd cc
not_before false later fault none = (refl, none)

distinct_from : (bytes : List ℕ) (earlier : List (List ℕ)) (hs : List HandlerText) → AreDistinct earlier → duplicate_fault bytes earlier hs ≡ None → AreDistinct (earlier ++ handler_names bytes hs)
distinct_from bytes earlier [] distinct none = subst AreDistinct (sym (append-nil earlier)) distinct
distinct_from bytes earlier (h ∷ hs) distinct none =
    let name = name_of bytes h.category in
    let test = not_before (list_any (bytes_eq name) earlier) (duplicate_fault bytes (earlier ++ name ∷ []) hs) (DuplicateHandler h.category.line) none in
    subst AreDistinct (append_assoc earlier (name ∷ []) (handler_names bytes hs))
    (distinct_from bytes (earlier ++ name ∷ []) hs (new_distinct earlier name distinct test.0) test.1)

none_distinct : AreDistinct []
none_distinct a b name at there = absurd (none-some name at)

-- ---- the parts

there : {X : Type 0} (xs : List X) (k : ℕ) → k < length xs → (x : X) × (slice_get xs k ≡ Some x)
there [] k less = absurd (omega (arith, less))
there (x ∷ xs) zero less = (x, refl)
there (x ∷ xs) (suc k) less = there xs k (omega (arith, less))

-- the property of rules
abbrev about : PropertyRules → PropertyDefinition
about d = record { formula = d.formula; handlers = d.handlers; resets = d.resets }

each_distinct : (parts : List CompiledProperty) → ((k : ℕ) (part : CompiledProperty) → slice_get parts k ≡ Some part → AreDistinct part.definition.handlers) → AreEachDistinct (map (λ (part : CompiledProperty). part.definition.handlers) parts)
each_distinct [] each = tt
each_distinct (part ∷ parts) each = (each 0 part refl, each_distinct parts (λ k other at. each (suc k) other at))

module _ (bytes : List ℕ) (full_binding : Bool) (tokens : List Token) (table : EventDefinitions) where
  abbrev Part : PropertyFacts → Formula → CompiledProperty → Type 0
  Part = IsPart bytes full_binding tokens table

  -- the properties of the parts are those that are said
  said : (ps : List PropertyFacts) (fs : List Formula) (parts : List CompiledProperty) → length fs ≡ length ps → length parts ≡ length ps
      → ((k : ℕ) (p : PropertyFacts) (f : Formula) (part : CompiledProperty) → slice_get ps k ≡ Some p → slice_get fs k ≡ Some f → slice_get parts k ≡ Some part → Part p f part)
      → map property_of parts ≡ properties_said bytes tokens ps fs
  said [] fs [] many count each = refl
  said [] fs (part ∷ parts) many count each = absurd (omega (arith, count))
  said (p ∷ ps) [] parts many count each = absurd (omega (arith, many))
  said (p ∷ ps) (f ∷ fs) [] many count each = absurd (omega (arith, count))
  said (p ∷ ps) (f ∷ fs) (part ∷ parts) many count each =
      let here : property_of part ≡ property_said bytes tokens p f = ap about (each 0 p f part refl refl refl).rules in
      let rest = said ps fs parts (omega (arith, many)) (omega (arith, count)) (λ k q g other. each (suc k) q g other) in
      λ i. here i ∷ rest i

  count_said : (ps : List PropertyFacts) (fs : List Formula) → length fs ≡ length ps → handler_count (properties_said bytes tokens ps fs) ≡ handlers_in ps
  count_said [] fs many = refl
  count_said (p ∷ ps) [] many = absurd (omega (arith, many))
  count_said (p ∷ ps) (f ∷ fs) many =
      omega (arith, length-map p.handlers (λ (h : HandlerText). name_of bytes h.category), count_said ps fs (omega (arith, many)))

  module _ (suffix : Bool) (ps : List PropertyFacts) (fs : List Formula) (read : AreFormulas bytes tokens table suffix ps fs) (none : handlers_fault bytes full_binding tokens ps fs ≡ None) (first : CompiledProperty) (others : List CompiledProperty) (made : AreParts bytes full_binding tokens table ps fs (first ∷ others)) where
    many : length fs ≡ length ps
    many = count_formulas bytes tokens table suffix ps fs read

    part_at : (k : ℕ) (part : CompiledProperty) → slice_get (first ∷ others) k ≡ Some part → (p : PropertyFacts) × (f : Formula) × (slice_get ps k ≡ Some p) × Part p f part
    part_at k part at =
        let within = slice_get_within (first ∷ others) k part at in
        let count = made.count in
        let same = many in
        let p = there ps k (omega (arith, within, count)) in
        let f = there fs k (omega (arith, within, count, same)) in
        (p.0, f.0, p.1, made.each k p.0 f.0 part p.1 f.1 at)

    rules_at : (k : ℕ) (part : CompiledProperty) → slice_get (first ∷ others) k ≡ Some part → (p : PropertyFacts) × (f : Formula) × (slice_get ps k ≡ Some p) × (part.definition ≡ property_rules_of table full_binding f (handler_names bytes p.handlers) (resetting_handlers bytes tokens p.handlers))
    rules_at k part at = let h = part_at k part at in (h.0, h.1, h.2, h.3.rules)

    pub parts_alike : (k : ℕ) (other : CompiledProperty) → slice_get others k ≡ Some other → IsAlike first other
    parts_alike k other at =
        let one = rules_at 0 first refl in
        let more = rules_at (suc k) other at in
        record {
          masks = ap (λ (d : PropertyRules). d.masks) more.3 ∙ sym (ap (λ (d : PropertyRules). d.masks) one.3);
          creation = ap (λ (d : PropertyRules). d.creation) more.3 ∙ sym (ap (λ (d : PropertyRules). d.creation) one.3);
          must_bind = ap (λ (d : PropertyRules). d.must_bind) more.3 ∙ sym (ap (λ (d : PropertyRules). d.must_bind) one.3);
        }

    parts_said : map property_of (first ∷ others) ≡ properties_said bytes tokens ps fs
    parts_said = said ps fs (first ∷ others) many made.count made.each

    pub parts_handlers : handler_count (map property_of (first ∷ others)) ≤ 16
    parts_handlers =
        let same = ap handler_count parts_said ∙ count_said ps fs many in
        let few = few_handlers bytes full_binding tokens ps fs none in
        omega (arith, same, few)

    pub parts_distinct : AreEachDistinct (map (λ (part : CompiledProperty). part.definition.handlers) (first ∷ others))
    parts_distinct =
        each_distinct (first ∷ others) (λ k part at.
        let of = rules_at k part at in
        subst AreDistinct (sym (ap (λ (d : PropertyRules). d.handlers) of.3))
        (distinct_from bytes [] of.0.handlers none_distinct (no_duplicate bytes full_binding tokens ps fs none k of.0 of.2)))

    pub parts_fit : All (λ mask. mask < 2 ^ length table.parameters) first.definition.masks
    parts_fit = (part_at 0 first refl).3.fit

    pub parts_rules : rules_with first others ≡ rules_of table full_binding (properties_said bytes tokens ps fs)
    parts_rules =
        let one = rules_at 0 first refl in
        let masks = ap (λ (d : PropertyRules). d.masks) one.3 in
        let creation = ap (λ (d : PropertyRules). d.creation) one.3 in
        let bound = ap (λ (d : PropertyRules). d.must_bind) one.3 in
        let properties = parts_said in
        λ i. record { masks = masks i; creation = creation i; must_bind = bound i; properties = properties i }

-- ---- faults

module _ (bytes : List ℕ) (tokens : List Token) (tree : SpecTree) where
  pub refused_formulas : (e : SpecError) → IfBad e (IsFirstRefusal (IsRefusedFormula bytes tokens tree.table (is_some tree.suffix)) (properties_of tree)) → IsNotCompiled bytes tokens tree e
  refused_formulas NoMemory h = tt
  refused_formulas (Bad fault) h = in_formulas h

  module _ (formulas : List Formula) (read : AreFormulas bytes tokens tree.table (is_some tree.suffix) (properties_of tree) formulas) where
    pub refused_handlers : (e : SpecError) → Refuses (handlers_fault bytes tree.full_binding tokens (properties_of tree) formulas) e → IsNotCompiled bytes tokens tree e
    refused_handlers NoMemory h = tt
    refused_handlers (Bad fault) h = in_handlers formulas read h

    pub refused_suffix : (e : SpecError) → handlers_fault bytes tree.full_binding tokens (properties_of tree) formulas ≡ None → Refuses (suffix_fault bytes tree.suffix (properties_of tree)) e → IsNotCompiled bytes tokens tree e
    refused_suffix NoMemory handled h = tt
    refused_suffix (Bad fault) handled h = in_suffix formulas read handled h

    module _ (handled : handlers_fault bytes tree.full_binding tokens (properties_of tree) formulas ≡ None) (suffixed : suffix_fault bytes tree.suffix (properties_of tree) ≡ None) where
      pub refused_tables : (e : SpecError) → IfBad e (IsFirstTableFault (length tree.table.events) formulas) → IsNotCompiled bytes tokens tree e
      refused_tables NoMemory h = tt
      refused_tables (Bad fault) h = in_tables formulas read handled suffixed h

      -- the rules of the compiled properties are those of the tree
      pub compiled_from : IsSettled (length tree.table.events) formulas → (first : CompiledProperty) (others : List CompiledProperty) → AreParts bytes tree.full_binding tokens tree.table (properties_of tree) formulas (first ∷ others) → IsCompiledFrom bytes tokens tree (rules_with first others)
      compiled_from settled first others made = record {
        formulas = formulas;
        read = read;
        handled = handled;
        suffixed = suffixed;
        settled = settled;
        rules = parts_rules bytes tree.full_binding tokens tree.table (is_some tree.suffix) (properties_of tree) formulas read handled first others made;
      }
