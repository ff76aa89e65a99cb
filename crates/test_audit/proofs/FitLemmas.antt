-- Scripts that were read over a spec set fit the sheets of its specifications.
use Rattle.std.proofs.Common.{◌≡◌, ℕ, zero, suc, ◌+◌, ◌^◌, ◌<◌, ◌≤◌, List, [], ◌∷◌, ◌++◌, length, get_or, map, length-append, pow-suc, refl, sym, ◌∙◌, ap, subst, inl, inr, arith}
use Rattle.std.specs.Prelude.{◌⊎◌, All, Option, Some, None, slice_get, unwrap_or, option_map}
use Rattle.std.specs.Option.{option_map_or}
use Rattle.std.proofs.lemmas.Option.{slice_get-map, none-some, same_Some, slice_get-get_or}
use Rattle.std.proofs.lemmas.List.{length-map, length_push}
use Rattle.std.proofs.lemmas.List.Elements.{All-head, All-tail, All-map, All-weaker}
use Rattle.jm_model.specs.Bindings.{object_at, objects_of, mask_of}
use Rattle.jm_model.specs.Meanings.{Meaning}
use Rattle.jm_model.specs.declared.binding.Binding.{Binding}
use Rattle.jm_model.specs.declared.step.Step.{Step}
use Rattle.jm_model.specs.declared.step.Step.TheVariants.{Event, Death, Pass}
use Rattle.jm_semantics.specs.Legality.{IsStepOf}
use Rattle.jm_semantics.specs.Scripts.{projection_of}
use Rattle.jm_events.specs.Events.{EventDefinition, EventDefinitions}
use Rattle.jm_print.specs.Lexicons.{Lexicon, lexicon_of}
use Rattle.jm_print.specs.Names.{IsNamedStep}
use Rattle.jm_script.specs.Catalogs.{CatalogEntry, table_of}
use Rattle.jm_script.specs.Events.{mask_at}
use Rattle.jm_script.specs.Fitting.{FitsCatalog, FitsSpecification}
use Rattle.jm_script.specs.Projections.{script_of}
use Rattle.jm_script.specs.declared.script.ScriptLine.{ScriptLine}
use Rattle.jm_script.proofs.FittingLemmas.{projection_fits}
use Rattle.jm_machine.specs.Meanings.{PropertyDefinition, RuleDefinition, handler_count, rules_meaning}
use Rattle.jm_machine.specs.HandlerNames.{numbered, numbered_from, names_for, names_of}
use Rattle.jm_inputs.specs.declared.specification.CompiledSpec.{CompiledSpec}
use Rattle.jm_inputs.specs.declared.spec_set.SpecSet.{SpecSet}
use Rattle.jm_inputs.specs.declared.scripts.Scripts.{Scripts}
use Rattle.jm_inputs.specs.Scripts.{entry_of, catalog_of}
use Rattle.jm_inputs.specs.Reading.{Listed, named_entry, listing, listed, listed_in, AreRulesOf, specification_of, FitsEntry, specs_in, IsCatalogued, AreCounted}
use Rattle.jm_audit.specs.Allowed.{steps_on}
use Rattle.jm_audit.specs.Sheets.{IsFit, AreFit, FitSheets}

-- ---- bindings
named_object : (b : Binding) (n p o : ℕ) → All (λ q. q < n) (objects_of b) → object_at b p ≡ Some o → o < n
named_object [] n p o all at = absurd cc
named_object (None ∷ b) n zero o all at = absurd cc
named_object (None ∷ b) n (suc p) o all at = named_object b n p o all at
named_object (Some q ∷ b) n zero o all at = subst (λ x. x < n) (same_Some q o at) (All-head (λ x. x < n) q (objects_of b) all)
named_object (Some q ∷ b) n (suc p) o all at = named_object b n p o (All-tail (λ x. x < n) q (objects_of b) all) at

bound_parameter : (b : Binding) (n p o : ℕ) → mask_of b < 2 ^ n → object_at b p ≡ Some o → p < n
bound_parameter [] n p o small at = absurd cc
bound_parameter (None ∷ b) n zero o small at = absurd cc
bound_parameter (None ∷ b) zero (suc p) o small at = absurd (omega (arith, bound_parameter b zero p o (omega (arith, small)) at))
bound_parameter (None ∷ b) (suc n) (suc p) o small at = omega (arith, bound_parameter b n p o (omega (arith, small, pow-suc 2 n)) at)
bound_parameter (Some q ∷ b) zero p o small at = absurd (omega (arith, small))
bound_parameter (Some q ∷ b) (suc n) zero o small at = omega arith
bound_parameter (Some q ∷ b) (suc n) (suc p) o small at = omega (arith, bound_parameter b n p o (omega (arith, small, pow-suc 2 n)) at)

-- ---- the meaning of rules
mask_there : (events : List EventDefinition) (e : ℕ) → unwrap_or (slice_get (map (λ (x : EventDefinition). x.mask) events) e) 0 ≡ option_map_or (λ (x : EventDefinition). x.mask) (slice_get events e) 0
mask_there events e = ap (λ o. unwrap_or o 0) (slice_get-map (λ (x : EventDefinition). x.mask) events e) ∙ by_case (slice_get events e)
  where
    by_case : (o : Option EventDefinition) → unwrap_or (option_map (λ (x : EventDefinition). x.mask) o) 0 ≡ option_map_or (λ (x : EventDefinition). x.mask) o 0
    by_case None = refl
    by_case (Some x) = refl

small_masks : (masks : List ℕ) (bound : ℕ) → 0 < bound → All (λ m. m < bound) masks → (e : ℕ) → unwrap_or (slice_get masks e) 0 < bound
small_masks [] bound some all e = some
small_masks (m ∷ masks) bound some all zero = All-head (λ x. x < bound) m masks all
small_masks (m ∷ masks) bound some all (suc e) = small_masks masks bound some (All-tail (λ x. x < bound) m masks all) e

power_some : (n : ℕ) → 0 < 2 ^ n
power_some zero = omega arith
power_some (suc n) = omega (arith, power_some n, pow-suc 2 n)

abbrev categories : List PropertyDefinition → List (List (List ℕ))
categories ps = map (λ (p : PropertyDefinition). p.handlers) ps

count_numbered : (j : ℕ) (ps : List PropertyDefinition) → length (numbered_from j (categories ps)) ≡ handler_count ps
count_numbered j [] = refl
count_numbered j (p ∷ ps) =
    omega (arith, length-append (map (numbered j) p.handlers) (numbered_from (j + 1) (categories ps)), length-map p.handlers (numbered j), count_numbered (j + 1) ps)

-- Rules of an entry that has this number in a catalog.
module _ (entry : CatalogEntry) (rules : RuleDefinition) (whole : AreRulesOf entry rules) (catalog : List CatalogEntry) (number : ℕ) (there : table_of catalog number ≡ entry.table) where
  mask_of_rules : (e : ℕ) → mask_at (table_of catalog number) e ≡ unwrap_or (slice_get rules.masks e) 0
  mask_of_rules e = ap (λ (x : EventDefinitions). mask_at x e) there ∙ sym (ap (λ ms. unwrap_or (slice_get ms e) 0) whole.masks ∙ mask_there entry.table.events e)

  letters_of_rules : length (table_of catalog number).events ≡ length rules.masks
  letters_of_rules = ap (λ (x : EventDefinitions). length x.events) there ∙ sym (ap (λ ms. length ms) whole.masks ∙ length-map entry.table.events (λ (e : EventDefinition). e.mask))

  small_params : (e : ℕ) → mask_at (table_of catalog number) e < 2 ^ length entry.table.parameters
  small_params e =
      subst (λ m. m < 2 ^ length entry.table.parameters) (sym (mask_of_rules e)) (small_masks rules.masks (2 ^ length entry.table.parameters) (power_some (length entry.table.parameters)) whole.fit e)

  own_step : (n : ℕ) (x : Step) → FitsSpecification catalog n number x → IsStepOf (rules_meaning rules) x
  own_step n (Event e b) fits = (subst (λ k. e.0 < k) letters_of_rules fits.event.event, fits.eight, fits.event.parameters ∙ mask_of_rules e.0)
  own_step n (Death o) fits = tt
  own_step n Pass fits = tt

  named_step : (l : Lexicon) (n : ℕ) → length l.events ≡ length entry.table.events → length l.parameters ≡ length entry.table.parameters → length l.objects ≡ n → (x : Step) → FitsSpecification catalog n number x
      → IsNamedStep l x
  named_step l n events parameters objects (Event e b) fits = (
    subst (λ k. e.0 < k) (sym events) (subst (λ (x : EventDefinitions). e.0 < length x.events) there fits.event.event),
    λ p o at. (
      subst (λ k. p < k) (sym parameters) (bound_parameter b (length entry.table.parameters) p o (subst (λ m. m < 2 ^ length entry.table.parameters) (sym fits.event.parameters) (small_params e.0)) at),
      subst (λ k. o < k) (sym objects) (named_object b n p o fits.named at),
    ),
  )
  named_step l n events parameters objects (Death o) fits = subst (λ k. o < k) (sym objects) fits
  named_step l n events parameters objects Pass fits = tt

-- ---- what is kept of a specification in its spec set
listed_at : (es : List CatalogEntry) (ls : List CompiledSpec) (k : ℕ) (name : List ℕ) (table : EventDefinitions) (l : CompiledSpec) → length es ≡ length ls
    → option_map (λ e. e.name) (slice_get es k) ≡ Some name → option_map (λ e. e.table) (slice_get es k) ≡ Some table → l ≡ get_or ls k l
    → slice_get (listed es ls) k ≡ Some (listing (named_entry name table) l)
listed_at [] ls k name table l same named there here = absurd cc
listed_at (e ∷ es) [] k name table l same named there here = absurd (omega (arith, same))
listed_at (e ∷ es) (m ∷ ls) zero name table l same named there here =
    λ i. Some (listing (named_entry (same_Some e.name name named i) (same_Some e.table table there i)) (sym here i))
listed_at (e ∷ es) (m ∷ ls) (suc k) name table l same named there here = listed_at es ls k name table l (omega (arith, same)) named there here

All-at : {X : Type 0} (P : X → Type 0) (xs : List X) (k : ℕ) (x : X) → All P xs → slice_get xs k ≡ Some x → P x
All-at P [] k x all at = absurd (none-some x at)
All-at P (y ∷ xs) zero x all at = subst P (same_Some y x at) (All-head P y xs all)
All-at P (y ∷ xs) (suc k) x all at = All-at P xs k x (All-tail P y xs all) at

at_map : {A B : Type 0} (f : A → B) (xs : List A) (k : ℕ) (x : A) → slice_get xs k ≡ Some x → slice_get (map f xs) k ≡ Some (f x)
at_map {A} {B} f xs k x at = slice_get-map f xs k ∙ ap (option_map f) at

table_at : (ls : List Listed) (k : ℕ) (l : Listed) → slice_get ls k ≡ Some l → table_of (catalog_of (map specification_of ls)) k ≡ l.entry.table
table_at ls k l at =
    ap (λ v. option_map_or (λ (x : CatalogEntry). x.table) v (record { parameters = []; events = [] })) (at_map entry_of (map specification_of ls) k (specification_of l) (at_map specification_of ls k l at))

projected : (catalog : List CatalogEntry) (names number : ℕ) (scripts : List (List ScriptLine)) → All (FitsCatalog catalog names) scripts
    → All (λ steps. All (λ (step : ℕ × Step). FitsSpecification catalog names number step.1) steps) (steps_on scripts number)
projected catalog names number scripts fit =
    All-map (λ steps. All (λ (step : ℕ × Step). FitsSpecification catalog names number step.1) steps) (λ script. projection_of (script_of script) number) scripts
    (All-weaker (FitsCatalog catalog names) (λ script. All (λ (step : ℕ × Step). FitsSpecification catalog names number step.1) (projection_of (script_of script) number)) (λ script fits. projection_fits catalog names number script fits) scripts fit)

count_names : (r : RuleDefinition) → length (names_of r) ≡ handler_count r.properties
count_names r = count_for r.properties
  where
    count_for : (ps : List PropertyDefinition) → length (names_for (categories ps)) ≡ handler_count ps
    count_for [] = refl
    count_for (p ∷ []) = omega arith
    count_for (p ∷ q ∷ ps) = count_numbered 0 (p ∷ q ∷ ps)

-- the steps of the scripts fit the sheet of the specification of this number
own_fits : (spec_set : SpecSet) (scripts : Scripts) → IsCatalogued spec_set → AreCounted (specs_in spec_set) scripts → (n : ℕ) (name : List ℕ) (table : EventDefinitions) (l : CompiledSpec)
    → option_map (λ e. e.name) (slice_get spec_set.catalog n) ≡ Some name → option_map (λ e. e.table) (slice_get spec_set.catalog n) ≡ Some table → l ≡ get_or spec_set.specs.items n l
    → AreFit (rules_meaning l.rules.definition) (lexicon_of name table (names_of l.rules.definition) scripts.objects l.header.texts.items) (steps_on scripts.list.items n)
own_fits spec_set scripts catalogued counted n name table l named there here =
    let rules = l.rules.definition in
    let words : Lexicon = lexicon_of name table (names_of rules) scripts.objects l.header.texts.items in
    let entry : CatalogEntry = named_entry name table in
    let catalog : List CatalogEntry = catalog_of (specs_in spec_set) in
    let at : slice_get (listed_in spec_set) n ≡ Some (listing entry l) = listed_at spec_set.catalog spec_set.specs.items n name table l catalogued.many named there here in
    let whole : AreRulesOf entry rules = All-at FitsEntry (listed_in spec_set) n (listing entry l) catalogued.kept at in
    let table_there : table_of catalog n ≡ table = table_at (listed_in spec_set) n (listing entry l) at in
    record {
      handlers = omega (arith, count_names rules);
      steps = λ k own is.
          All-weaker (λ (s : ℕ × Step). FitsSpecification catalog (length scripts.objects) n s.1) (λ (s : ℕ × Step). IsFit (rules_meaning rules) words s.1)
          (λ s fits. (
            own_step entry rules whole catalog n table_there (length scripts.objects) s.1 fits,
            named_step entry rules whole catalog n table_there words (length scripts.objects) (length-map table.events (λ (e : EventDefinition). e.name)) refl refl s.1 fits,
          )) own
          (All-at (λ steps. All (λ (s : ℕ × Step). FitsSpecification catalog (length scripts.objects) n s.1) steps) (steps_on scripts.list.items n) k own (projected catalog (length scripts.objects) n scripts.list.items counted.fit) is);
    }

-- and so they do by any names that are the same
pub sheet_fits : (spec_set : SpecSet) (scripts : Scripts) → IsCatalogued spec_set → AreCounted (specs_in spec_set) scripts → (n : ℕ) (name : List ℕ) (table : EventDefinitions) (l : CompiledSpec)
    → option_map (λ e. e.name) (slice_get spec_set.catalog n) ≡ Some name → option_map (λ e. e.table) (slice_get spec_set.catalog n) ≡ Some table → l ≡ get_or spec_set.specs.items n l
    → (words : Lexicon) → words ≡ lexicon_of name table (names_of l.rules.definition) scripts.objects l.header.texts.items
    → AreFit (rules_meaning l.rules.definition) words (steps_on scripts.list.items n)
sheet_fits spec_set scripts catalogued counted n name table l named there here words same =
    subst (λ (w : Lexicon). AreFit (rules_meaning l.rules.definition) w (steps_on scripts.list.items n)) (sym same) (own_fits spec_set scripts catalogued counted n name table l named there here)

-- ---- sheet by sheet
pub many_more : {X : Type 0} (xs ys : List X) (x : X) (n : ℕ) → ys ≡ xs ++ x ∷ [] → length xs ≡ n → length ys ≡ n + 1
many_more xs ys x n is many =
    let grown : length ys ≡ length (xs ++ x ∷ []) = ap (λ v. length v) is in
    omega (arith, grown, length_push xs x, many)

one_more : {X : Type 0} (xs : List X) (x : X) (n : ℕ) (y : X) → slice_get (xs ++ x ∷ []) n ≡ Some y → (slice_get xs n ≡ Some y) ⊎ ((n ≡ length xs) × (x ≡ y))
one_more [] x zero y at = inr (refl, same_Some x y at)
one_more [] x (suc n) y at = absurd (none-some y at)
one_more (z ∷ xs) x zero y at = inl at
one_more (z ∷ xs) x (suc n) y at = elim (one_more xs x n y at) [
  | inl other ↦ inl other
  | inr last ↦ inr (ap suc last.0, last.1)
]

module _ {X : Type 0} (mean : X → Meaning) (words : X → Lexicon) (scripts : List (List ScriptLine)) where
  pub fit_none : (xs : List X) → xs ≡ [] → FitSheets mean words scripts xs
  fit_none xs none = subst (λ (ys : List X). FitSheets mean words scripts ys) (sym none) (λ n x at. absurd (none-some x at))

  pub fit_more : (xs ys : List X) (x : X) (n : ℕ) → ys ≡ xs ++ x ∷ [] → length xs ≡ n → FitSheets mean words scripts xs → AreFit (mean x) (words x) (steps_on scripts n)
      → FitSheets mean words scripts ys
  fit_more xs ys x n is many all here =
      subst (λ (zs : List X). FitSheets mean words scripts zs) (sym is)
      (λ k y at. elim (one_more xs x k y at) [
        | inl other ↦ all k y other
        | inr last ↦
            subst (λ (z : X). AreFit (mean z) (words z) (steps_on scripts k)) last.1
            (subst (λ (j : ℕ). AreFit (mean x) (words x) (steps_on scripts j)) (sym (last.0 ∙ many)) here)
      ])
