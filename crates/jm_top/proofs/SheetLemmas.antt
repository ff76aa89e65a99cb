-- The sheets of a spec set's specifications: the scripts that were read fit them, and what they allow is what is allowed over
-- the specifications.
use Rattle.std.proofs.Common.{◌≡◌, ℕ, zero, suc, ◌+◌, ◌<◌, List, [], ◌∷◌, ◌++◌, length, get_or, map, refl, sym, ◌∙◌, ap, subst, inl, inr, arith}
use Rattle.std.specs.Prelude.{◌⊎◌, All, Some, slice_get, option_map}
use Rattle.std.specs.Option.{option_map_or}
use Rattle.std.proofs.lemmas.Option.{slice_get-map, none-some, same_Some}
use Rattle.std.proofs.lemmas.List.{length_push}
use Rattle.std.proofs.lemmas.List.Elements.{All-head, All-tail, All-map, All-weaker}
use Rattle.jm_model.specs.Meanings.{Meaning}
use Rattle.jm_model.specs.declared.step.Step.{Step}
use Rattle.jm_model.specs.declared.step.Step.TheVariants.{Event, Death, Pass}
use Rattle.jm_semantics.specs.Legality.{IsStepOf}
use Rattle.jm_semantics.specs.Scripts.{projection_of}
use Rattle.jm_events.specs.Events.{EventDefinitions}
use Rattle.jm_print.specs.Lexicons.{Lexicon, lexicon_of}
use Rattle.jm_script.specs.Catalogs.{CatalogEntry, table_of}
use Rattle.jm_script.specs.Fitting.{FitsCatalog, FitsSpecification}
use Rattle.jm_script.specs.Projections.{script_of}
use Rattle.jm_script.specs.declared.script.ScriptLine.{ScriptLine}
use Rattle.jm_script.proofs.FittingLemmas.{projection_fits}
use Rattle.jm_machine.specs.Meanings.{RuleDefinition, rules_meaning}
use Rattle.jm_machine.specs.HandlerNames.{names_of}
use Rattle.jm_inputs.specs.declared.specification.CompiledSpec.{CompiledSpec}
use Rattle.jm_inputs.specs.declared.spec_set.SpecSet.{SpecSet}
use Rattle.jm_inputs.specs.declared.scripts.Scripts.{Scripts}
use Rattle.jm_inputs.specs.Scripts.{entry_of, catalog_of}
use Rattle.jm_inputs.specs.Reading.{Listed, named_entry, listing, listed, listed_in, AreRulesOf, specification_of, FitsEntry, specs_in, IsCatalogued, AreCounted}
use Rattle.jm_semantics.specs.Legality.{IsLegal}
use Rattle.jm_model.specs.declared.step.Entry.{Entry}
use Rattle.jm_print.specs.Told.{texts_of}
use Rattle.jm_inputs.specs.Specifications.{Specification}
use Rattle.jm_audit.specs.declared.verdict.Verdict.{Verdict}
use Rattle.jm_audit.specs.declared.verdict.Verdict.TheVariants.{Yes, No}
use Rattle.jm_audit.specs.Fronts.{IsReached}
use Rattle.jm_audit.specs.Verdicts.{IsVerdict}
use Rattle.jm_audit.specs.Allowed as audit
use Rattle.jm_audit.specs.Allowed.{steps_on}
use Rattle.jm_top.specs.Histories.{AreHistoriesFrom, lexicon, IsTextOfHistories}
use Rattle.jm_top.proofs.NameLemmas.{count_names}
use Rattle.jm_top.proofs.HistoryLemmas.{mask_of_rules, letters_of_rules, fitting_named}
use Rattle.jm_audit.specs.Sheets.{IsFit, AreFit, FitSheets}

-- ---- the steps of a specification
own_step : (entry : CatalogEntry) (rules : RuleDefinition) → AreRulesOf entry rules → (catalog : List CatalogEntry) (number : ℕ) → table_of catalog number ≡ entry.table → (n : ℕ) (x : Step) → FitsSpecification catalog n number x → IsStepOf (rules_meaning rules) x
own_step entry rules whole catalog number there n (Event e b) fits =
    (subst (λ k. e.0 < k) (letters_of_rules entry rules whole catalog number there) fits.event.event, fits.eight, fits.event.parameters ∙ mask_of_rules entry rules whole catalog number there e.0)
own_step entry rules whole catalog number there n (Death o) fits = tt
own_step entry rules whole catalog number there n Pass fits = tt

-- ---- what is kept of a specification in its spec set
listed_at : (es : List CatalogEntry) (ls : List CompiledSpec) (k : ℕ) (name : List ℕ) (table : EventDefinitions) (l : CompiledSpec) → length es ≡ length ls
    → option_map (λ e. e.name) (slice_get es k) ≡ Some name → option_map (λ e. e.table) (slice_get es k) ≡ Some table → l ≡ get_or ls k l
    → slice_get (listed es ls) k ≡ Some (listing (named_entry name table) l)
listed_at [] ls k name table l same named there here = absurd cc
listed_at (e ∷ es) [] k name table l same named there here = absurd (omega (arith, same))
listed_at (e ∷ es) (m ∷ ls) zero name table l same named there here =
    λ i. Some (listing (named_entry (same_Some e.name name named i) (same_Some e.table table there i)) (sym here i))
listed_at (e ∷ es) (m ∷ ls) (suc k) name table l same named there here = listed_at es ls k name table l (omega (arith, same)) named there here

All-at : {X : Type 0} (P : X → Type 0) (xs : List X) (k : ℕ) (x : X) → All P xs → slice_get xs k ≡ Some x → P x
All-at P [] k x all at = absurd (none-some x at)
All-at P (y ∷ xs) zero x all at = subst P (same_Some y x at) (All-head P y xs all)
All-at P (y ∷ xs) (suc k) x all at = All-at P xs k x (All-tail P y xs all) at

at_map : {A B : Type 0} (f : A → B) (xs : List A) (k : ℕ) (x : A) → slice_get xs k ≡ Some x → slice_get (map f xs) k ≡ Some (f x)
at_map {A} {B} f xs k x at = slice_get-map f xs k ∙ ap (option_map f) at

table_at : (ls : List Listed) (k : ℕ) (l : Listed) → slice_get ls k ≡ Some l → table_of (catalog_of (map specification_of ls)) k ≡ l.entry.table
table_at ls k l at =
    ap (λ v. option_map_or (λ (x : CatalogEntry). x.table) v (record { parameters = []; events = [] })) (at_map entry_of (map specification_of ls) k (specification_of l) (at_map specification_of ls k l at))

projected : (catalog : List CatalogEntry) (names number : ℕ) (scripts : List (List ScriptLine)) → All (FitsCatalog catalog names) scripts
    → All (λ steps. All (λ (step : ℕ × Step). FitsSpecification catalog names number step.1) steps) (steps_on scripts number)
projected catalog names number scripts fit =
    All-map (λ steps. All (λ (step : ℕ × Step). FitsSpecification catalog names number step.1) steps) (λ script. projection_of (script_of script) number) scripts
    (All-weaker (FitsCatalog catalog names) (λ script. All (λ (step : ℕ × Step). FitsSpecification catalog names number step.1) (projection_of (script_of script) number)) (λ script fits. projection_fits catalog names number script fits) scripts fit)

-- the steps of the scripts fit the sheet of the specification of this number
own_fits : (spec_set : SpecSet) (scripts : Scripts) → IsCatalogued spec_set → AreCounted (specs_in spec_set) scripts → (n : ℕ) (name : List ℕ) (table : EventDefinitions) (l : CompiledSpec)
    → option_map (λ e. e.name) (slice_get spec_set.catalog n) ≡ Some name → option_map (λ e. e.table) (slice_get spec_set.catalog n) ≡ Some table → l ≡ get_or spec_set.specs.items n l
    → AreFit (rules_meaning l.rules.definition) (lexicon_of name table (names_of l.rules.definition) scripts.objects l.header.texts.items) (steps_on scripts.list.items n)
own_fits spec_set scripts catalogued counted n name table l named there here =
    let rules = l.rules.definition in
    let words : Lexicon = lexicon_of name table (names_of rules) scripts.objects l.header.texts.items in
    let entry : CatalogEntry = named_entry name table in
    let catalog : List CatalogEntry = catalog_of (specs_in spec_set) in
    let at : slice_get (listed_in spec_set) n ≡ Some (listing entry l) = listed_at spec_set.catalog spec_set.specs.items n name table l catalogued.many named there here in
    let whole : AreRulesOf entry rules = All-at FitsEntry (listed_in spec_set) n (listing entry l) catalogued.kept at in
    let table_there : table_of catalog n ≡ table = table_at (listed_in spec_set) n (listing entry l) at in
    record {
      handlers = omega (arith, count_names rules);
      steps = λ k own is.
          All-weaker (λ (s : ℕ × Step). FitsSpecification catalog (length scripts.objects) n s.1) (λ (s : ℕ × Step). IsFit (rules_meaning rules) words s.1)
          (λ s fits. (
            own_step entry rules whole catalog n table_there (length scripts.objects) s.1 fits,
            fitting_named entry rules whole catalog n table_there l.header scripts.objects s.1 fits,
          )) own
          (All-at (λ steps. All (λ (s : ℕ × Step). FitsSpecification catalog (length scripts.objects) n s.1) steps) (steps_on scripts.list.items n) k own (projected catalog (length scripts.objects) n scripts.list.items counted.fit) is);
    }

-- and so they do by any names that are the same
pub sheet_fits : (spec_set : SpecSet) (scripts : Scripts) → IsCatalogued spec_set → AreCounted (specs_in spec_set) scripts → (n : ℕ) (name : List ℕ) (table : EventDefinitions) (l : CompiledSpec)
    → option_map (λ e. e.name) (slice_get spec_set.catalog n) ≡ Some name → option_map (λ e. e.table) (slice_get spec_set.catalog n) ≡ Some table → l ≡ get_or spec_set.specs.items n l
    → (words : Lexicon) → words ≡ lexicon_of name table (names_of l.rules.definition) scripts.objects l.header.texts.items
    → AreFit (rules_meaning l.rules.definition) words (steps_on scripts.list.items n)
sheet_fits spec_set scripts catalogued counted n name table l named there here words same =
    subst (λ (w : Lexicon). AreFit (rules_meaning l.rules.definition) w (steps_on scripts.list.items n)) (sym same) (own_fits spec_set scripts catalogued counted n name table l named there here)

-- what is kept of the specification of this number
pub kept_at : (spec_set : SpecSet) → IsCatalogued spec_set → (n : ℕ) (name : List ℕ) (table : EventDefinitions) (l : CompiledSpec)
    → option_map (λ e. e.name) (slice_get spec_set.catalog n) ≡ Some name → option_map (λ e. e.table) (slice_get spec_set.catalog n) ≡ Some table → l ≡ get_or spec_set.specs.items n l
    → (t : Specification) → slice_get (specs_in spec_set) n ≡ Some t → specification_of (listing (named_entry name table) l) ≡ t
kept_at spec_set catalogued n name table l named there here t at =
    let listed : slice_get (listed_in spec_set) n ≡ Some (listing (named_entry name table) l) = listed_at spec_set.catalog spec_set.specs.items n name table l catalogued.many named there here in
    same_Some _ t (sym (at_map specification_of (listed_in spec_set) n (listing (named_entry name table) l) listed) ∙ at)

-- ---- sheet by sheet
pub many_more : {X : Type 0} (xs ys : List X) (x : X) (n : ℕ) → ys ≡ xs ++ x ∷ [] → length xs ≡ n → length ys ≡ n + 1
many_more xs ys x n is many =
    let grown : length ys ≡ length (xs ++ x ∷ []) = ap (λ v. length v) is in
    omega (arith, grown, length_push xs x, many)

one_more : {X : Type 0} (xs : List X) (x : X) (n : ℕ) (y : X) → slice_get (xs ++ x ∷ []) n ≡ Some y → (slice_get xs n ≡ Some y) ⊎ ((n ≡ length xs) × (x ≡ y))
one_more [] x zero y at = inr (refl, same_Some x y at)
one_more [] x (suc n) y at = absurd (none-some y at)
one_more (z ∷ xs) x zero y at = inl at
one_more (z ∷ xs) x (suc n) y at = elim (one_more xs x n y at) [
  | inl other ↦ inl other
  | inr last ↦ inr (ap suc last.0, last.1)
]

module _ {X : Type 0} (rules : X → RuleDefinition) (words : X → Lexicon) (scripts : List (List ScriptLine)) where
  abbrev pub mean : X → Meaning
  mean x = rules_meaning (rules x)

  pub fit_none : (xs : List X) → xs ≡ [] → FitSheets mean words scripts xs
  fit_none xs none = subst (λ (ys : List X). FitSheets mean words scripts ys) (sym none) (λ n x at. absurd (none-some x at))

  pub fit_more : (xs ys : List X) (x : X) (n : ℕ) → ys ≡ xs ++ x ∷ [] → length xs ≡ n → FitSheets mean words scripts xs → AreFit (mean x) (words x) (steps_on scripts n)
      → FitSheets mean words scripts ys
  fit_more xs ys x n is many all here =
      subst (λ (zs : List X). FitSheets mean words scripts zs) (sym is)
      (λ k y at. elim (one_more xs x k y at) [
        | inl other ↦ all k y other
        | inr last ↦
            subst (λ (z : X). AreFit (mean z) (words z) (steps_on scripts k)) last.1
            (subst (λ (j : ℕ). AreFit (mean x) (words x) (steps_on scripts j)) (sym (last.0 ∙ many)) here)
      ])

  -- ---- what sheets allow
  -- each sheet is that of the specification of its place
  abbrev pub AreSheetsOf : List X → List Specification → List (List ℕ) → Type 0
  AreSheetsOf xs ts objects = (k : ℕ) (x : X) (t : Specification) → slice_get xs k ≡ Some x → slice_get ts k ≡ Some t
      → (rules x ≡ t.rules) × (words x ≡ lexicon objects t)

  pub sheets_none : (xs : List X) (ts : List Specification) (objects : List (List ℕ)) → xs ≡ [] → AreSheetsOf xs ts objects
  sheets_none xs ts objects none = subst (λ (ys : List X). AreSheetsOf ys ts objects) (sym none) (λ k x t at there. absurd (none-some x at))

  pub sheets_more : (xs ys : List X) (x : X) (n : ℕ) (ts : List Specification) (objects : List (List ℕ)) → ys ≡ xs ++ x ∷ [] → length xs ≡ n → AreSheetsOf xs ts objects
      → ((t : Specification) → slice_get ts n ≡ Some t → (rules x ≡ t.rules) × (words x ≡ lexicon objects t)) → AreSheetsOf ys ts objects
  sheets_more xs ys x n ts objects is many all here =
      subst (λ (zs : List X). AreSheetsOf zs ts objects) (sym is)
      (λ k y t at there. elim (one_more xs x k y at) [
        | inl other ↦ all k y t other there
        | inr last ↦
            subst (λ (z : X). (rules z ≡ t.rules) × (words z ≡ lexicon objects t)) last.1 (here t (ap (slice_get ts) (sym (last.0 ∙ many)) ∙ there))
      ])

  same_words : (xs : List X) (ts : List Specification) (objects : List (List ℕ)) → length xs ≡ length ts → AreSheetsOf xs ts objects → map words xs ≡ map (lexicon objects) ts
  same_words [] [] objects many same = refl
  same_words [] (t ∷ ts) objects many same = absurd (omega (arith, many))
  same_words (x ∷ xs) [] objects many same = absurd (omega (arith, many))
  same_words (x ∷ xs) (t ∷ ts) objects many same =
      let first : words x ≡ lexicon objects t = (same 0 x t refl refl).1 in
      let rest = same_words xs ts objects (omega (arith, many)) (λ k. same (suc k)) in
      λ i. first i ∷ rest i

  histories_to : (n : ℕ) (xs : List X) (ts : List Specification) (objects : List (List ℕ)) (hs : List (List Entry)) → length xs ≡ length ts → AreSheetsOf xs ts objects
      → audit.AreHistoriesFrom mean words scripts n xs hs → AreHistoriesFrom n ts scripts hs
  histories_to n [] [] objects [] many same each = tt
  histories_to n [] [] objects (h ∷ hs) many same each = absurd each
  histories_to n [] (t ∷ ts) objects hs many same each = absurd (omega (arith, many))
  histories_to n (x ∷ xs) [] objects hs many same each = absurd (omega (arith, many))
  histories_to n (x ∷ xs) (t ∷ ts) objects [] many same each = absurd each
  histories_to n (x ∷ xs) (t ∷ ts) objects (h ∷ hs) many same each = (
    record { legal = subst (λ (r : RuleDefinition). IsLegal (rules_meaning r) h) (same 0 x t refl refl).0 each.0.legal; woven = each.0.woven },
    histories_to (n + 1) xs ts objects hs (omega (arith, many)) (λ k. same (suc k)) each.1,
  )

  histories_from : (n : ℕ) (xs : List X) (ts : List Specification) (objects : List (List ℕ)) (hs : List (List Entry)) → length xs ≡ length ts → AreSheetsOf xs ts objects
      → AreHistoriesFrom n ts scripts hs → audit.AreHistoriesFrom mean words scripts n xs hs
  histories_from n [] [] objects [] many same each = tt
  histories_from n [] [] objects (h ∷ hs) many same each = absurd each
  histories_from n [] (t ∷ ts) objects hs many same each = absurd (omega (arith, many))
  histories_from n (x ∷ xs) [] objects hs many same each = absurd (omega (arith, many))
  histories_from n (x ∷ xs) (t ∷ ts) objects [] many same each = absurd each
  histories_from n (x ∷ xs) (t ∷ ts) objects (h ∷ hs) many same each = (
    record { legal = subst (λ (r : RuleDefinition). IsLegal (rules_meaning r) h) (sym (same 0 x t refl refl).0) each.0.legal; woven = each.0.woven },
    histories_from (n + 1) xs ts objects hs (omega (arith, many)) (λ k. same (suc k)) each.1,
  )

  module _ (xs : List X) (ts : List Specification) (objects : List (List ℕ)) (many : length xs ≡ length ts) (same : AreSheetsOf xs ts objects) where
    allowed_to : (text : List ℕ) → audit.IsAllowed mean words scripts xs text → IsTextOfHistories ts scripts objects text
    allowed_to text h = record {
      histories = h.histories;
      each = histories_to 0 xs ts objects h.histories many same h.each;
      printed = h.printed ∙ ap (λ ls. texts_of ls h.histories) (same_words xs ts objects many same);
    }

    allowed_from : (text : List ℕ) → IsTextOfHistories ts scripts objects text → audit.IsAllowed mean words scripts xs text
    allowed_from text h = record {
      histories = h.histories;
      each = histories_from 0 xs ts objects h.histories many same h.each;
      printed = h.printed ∙ ap (λ ls. texts_of ls h.histories) (sym (same_words xs ts objects many same));
    }

    reached_to : (text : List ℕ) (n : ℕ) → IsReached (audit.IsAllowed mean words scripts xs) text n → IsReached (IsTextOfHistories ts scripts objects) text n
    reached_to text n h = record {
      front = h.front;
      lines = h.lines;
      many = h.many;
      here = h.here;
      allowed = h.allowed;
      is_allowed = allowed_to h.allowed h.is_allowed;
      there = h.there;
    }

    reached_from : (text : List ℕ) (n : ℕ) → IsReached (IsTextOfHistories ts scripts objects) text n → IsReached (audit.IsAllowed mean words scripts xs) text n
    reached_from text n h = record {
      front = h.front;
      lines = h.lines;
      many = h.many;
      here = h.here;
      allowed = h.allowed;
      is_allowed = allowed_from h.allowed h.is_allowed;
      there = h.there;
    }

    -- the verdict over the sheets is that over the specifications
    pub verdict_to : (text : List ℕ) (v : Verdict) → IsVerdict (audit.IsAllowed mean words scripts xs) text v → IsVerdict (IsTextOfHistories ts scripts objects) text v
    verdict_to text Yes h = allowed_to text h
    verdict_to text (No line) h = (
      λ is. h.0 (allowed_from text is),
      (h.1.0, h.1.1, reached_to text h.1.0 h.1.2, λ n reached. h.1.3 n (reached_from text n reached)),
    )
