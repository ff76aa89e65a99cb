-- The histories of scripts' steps, and their texts.
use Rattle.std.proofs.Common.{◌≡◌, ◌≢◌, ℕ, zero, suc, ◌^◌, ◌<◌, ◌≤◌, true, List, [], ◌∷◌, ◌++◌, length, get_or, pow-suc, append-nil, append_assoc, refl, sym, ◌∙◌, ap, subst, arith}
use Rattle.std.specs.Prelude.{All, Contains, Option, Some, None, ◌==◌, map, filter, slice_get, unwrap_or, option_map, Result, Ok, Err, IfOk}
use Rattle.std.specs.Option.{option_map_or}
use Rattle.std.specs.List.{AllByRecursion}
use Rattle.std.proofs.lemmas.Option.{slice_get-map, none-some}
use Rattle.std.proofs.lemmas.List.{length-map, length_push, map-append}
use Rattle.std.proofs.lemmas.Grind.{flat_map-append}
use Rattle.std.proofs.lemmas.Bool.Decides.{nat_tests}
use Rattle.std.proofs.lemmas.List.Elements.{All-nil, All-cons, All-append, recursion_from_All, All-weaker, All-head, All-tail, All-map, All-contains, All-contains_itself}
use Rattle.jm_model.specs.Bindings.{object_at, objects_of, mask_of}
use Rattle.jm_model.specs.Meanings.{Meaning}
use Rattle.jm_model.specs.declared.binding.Binding.{Binding}
use Rattle.jm_model.specs.declared.step.Step.{Step}
use Rattle.jm_model.specs.declared.step.Step.TheVariants.{Event, Death, Pass}
use Rattle.jm_model.specs.declared.step.Outcome.TheVariants.{NoMemory}
use Rattle.jm_model.specs.declared.step.Entry.{Entry}
use Rattle.jm_semantics.specs.Scripts.{steps_of, projection_of, IsInterleaving}
use Rattle.jm_semantics.specs.Legality.{IsLegal}
use Rattle.jm_semantics.proofs.ListLemmas.{Contains-filter, Contains-map}
use Rattle.jm_core.specs.Steps.{IsFitStep}
use Rattle.jm_core.specs.Cores.{Core}
use Rattle.jm_core.specs.Replays.{AreEntriesOf, Replayed, line_and_step}
use Rattle.jm_events.specs.Events.{EventDefinition, EventDefinitions}
use Rattle.jm_print.specs.Lexicons.{Lexicon}
use Rattle.jm_print.specs.Texts.{IsPrintable, history_text}
use Rattle.jm_script.specs.Catalogs.{CatalogEntry, table_of}
use Rattle.jm_script.specs.Events.{mask_at}
use Rattle.jm_script.specs.Fitting.{FitsCatalog, FitsSpecification}
use Rattle.jm_script.specs.Projections.{script_of}
use Rattle.jm_script.specs.Blocks.{steps_in}
use Rattle.jm_script.specs.declared.script.ScriptLine.{ScriptLine}
use Rattle.jm_machine.specs.Meanings.{RuleDefinition, handler_count, rules_meaning}
use Rattle.jm_machine.specs.HandlerNames.{names_of}
use Rattle.jm_top.proofs.NameLemmas.{count_names}
use Rattle.jm_inputs.specs.declared.specification.SpecHeader.{SpecHeader}
use Rattle.jm_inputs.specs.declared.specification.CompiledSpec.{CompiledSpec}
use Rattle.jm_inputs.specs.declared.spec_set.SpecSet.{SpecSet}
use Rattle.jm_inputs.specs.declared.scripts.Scripts.{Scripts}
use Rattle.jm_inputs.specs.Scripts.{catalog_of}
use Rattle.jm_inputs.specs.Reading.{named_entry, listing, listed, listed_in, AreRulesOf, titled, specification_of, FitsEntry, specs_in, IsCatalogued, AreCounted}
use Rattle.jm_sync.specs.declared.line.SyncLine.{SyncLine}
use Rattle.jm_sync.specs.declared.line.Cut.{Cut}
use Rattle.jm_sync.specs.Checks.{AreSound, sync_of}
use Rattle.jm_sync.specs.Cuts.{RisesFrom as SyncRisesFrom}
use Rattle.jm_sync.proofs.CheckLemmas.{length-sync_of}
use Rattle.jm_script.specs.Meanings.{RisesFrom}
use Rattle.jm_runner.specs.Orders.{IsOrdered}
use Rattle.jm_top.specs.Histories.{lexicon, IsTextOfHistories, IsTextOfOrdered}
use Rattle.jm_top.proofs.LoneLemmas.{lone_order}
use Rattle.jm_top.specs.Replays.{IsReplayOf, IsPrintedReplay}
use Rattle.jm_inputs.proofs.OneReadingLemmas.{same_some}
use Rattle.jm_print.specs.Names.{IsNamedStep}
use Rattle.jm_print.proofs.PrintLemmas.{printable}

-- ---- bindings

-- each object that is bound is among the objects
named_object : (b : Binding) (n p o : ℕ) → All (λ q. q < n) (objects_of b) → object_at b p ≡ Some o → o < n
named_object [] n p o all at = absurd cc
named_object (None ∷ b) n zero o all at = absurd cc
named_object (None ∷ b) n (suc p) o all at = named_object b n p o all at
named_object (Some q ∷ b) n zero o all at = subst (λ x. x < n) (same_some at) (All-head (λ x. x < n) q (objects_of b) all)
named_object (Some q ∷ b) n (suc p) o all at = named_object b n p o (All-tail (λ x. x < n) q (objects_of b) all) at

-- each parameter that is bound is one of the first n, where the set of them is one of these
bound_parameter : (b : Binding) (n p o : ℕ) → mask_of b < 2 ^ n → object_at b p ≡ Some o → p < n
bound_parameter [] n p o small at = absurd cc
bound_parameter (None ∷ b) n zero o small at = absurd cc
bound_parameter (None ∷ b) zero (suc p) o small at = absurd (omega (arith, bound_parameter b zero p o (omega (arith, small)) at))
bound_parameter (None ∷ b) (suc n) (suc p) o small at = omega (arith, bound_parameter b n p o (omega (arith, small, pow-suc 2 n)) at)
bound_parameter (Some q ∷ b) zero p o small at = absurd (omega (arith, small))
bound_parameter (Some q ∷ b) (suc n) zero o small at = omega arith
bound_parameter (Some q ∷ b) (suc n) (suc p) o small at = omega (arith, bound_parameter b n p o (omega (arith, small, pow-suc 2 n)) at)

-- ---- the meaning of the rules

mask_there : (events : List EventDefinition) (e : ℕ) → unwrap_or (slice_get (map (λ (x : EventDefinition). x.mask) events) e) 0 ≡ option_map_or (λ (x : EventDefinition). x.mask) (slice_get events e) 0
mask_there events e = ap (λ o. unwrap_or o 0) (slice_get-map (λ (x : EventDefinition). x.mask) events e) ∙ by_case (slice_get events e)
  where
    by_case : (o : Option EventDefinition) → unwrap_or (option_map (λ (x : EventDefinition). x.mask) o) 0 ≡ option_map_or (λ (x : EventDefinition). x.mask) o 0
    by_case None = refl
    by_case (Some x) = refl

-- ---- the steps

-- the set of parameters of each event is one of these
small_masks : (masks : List ℕ) (bound : ℕ) → 0 < bound → All (λ m. m < bound) masks → (e : ℕ) → unwrap_or (slice_get masks e) 0 < bound
small_masks [] bound some all e = some
small_masks (m ∷ masks) bound some all zero = All-head (λ x. x < bound) m masks all
small_masks (m ∷ masks) bound some all (suc e) = small_masks masks bound some (All-tail (λ x. x < bound) m masks all) e

power_some : (n : ℕ) → 0 < 2 ^ n
power_some zero = omega arith
power_some (suc n) = omega (arith, power_some n, pow-suc 2 n)

-- what holds of all steps of the lists holds of those of an interleaving
entries_of_lists : (P : Step → Type 0) (lists : List (List (ℕ × Step))) (h : List Entry) → ((k : ℕ) (own : List (ℕ × Step)) → slice_get lists k ≡ Some own → All (λ step. P step.1) own) → IsInterleaving h lists → All (λ x. P x.step) h
entries_of_lists P lists h each is = All-weaker (Contains h) (λ (x : Entry). P x.step) step_of h (All-contains_itself h)
  where
    step_of : (x : Entry) → Contains h x → P x.step
    step_of x among =
        let caller : x.caller < length lists = All-contains (λ (y : Entry). y.caller < length lists) h x is.callers among in
        let own : (x.caller == x.caller) ≡ true = grind (arith, nat_tests) in
        let there : Contains (steps_of x.caller h) (x.line, x.step) = Contains-map (λ (y : Entry). (y.line, y.step)) (filter (λ (y : Entry). y.caller == x.caller) h) x (Contains-filter (λ (y : Entry). y.caller == x.caller) h x among own) in
        All-contains (λ (step : ℕ × Step). P step.1) (steps_of x.caller h) (x.line, x.step) (each x.caller (steps_of x.caller h) (is.each x.caller caller)) there

-- Rules of an entry that has this number in a catalog.
module _ (entry : CatalogEntry) (rules : RuleDefinition) (whole : AreRulesOf entry rules) (catalog : List CatalogEntry) (number : ℕ) (there : table_of catalog number ≡ entry.table) where
  -- the letters and their parameters are those of the events
  pub mask_of_rules : (e : ℕ) → mask_at (table_of catalog number) e ≡ unwrap_or (slice_get rules.masks e) 0
  mask_of_rules e = ap (λ (x : EventDefinitions). mask_at x e) there ∙ sym (ap (λ ms. unwrap_or (slice_get ms e) 0) whole.masks ∙ mask_there entry.table.events e)

  pub letters_of_rules : length (table_of catalog number).events ≡ length rules.masks
  letters_of_rules = ap (λ (x : EventDefinitions). length x.events) there ∙ sym (ap (λ ms. length ms) whole.masks ∙ length-map entry.table.events (λ (e : EventDefinition). e.mask))

  -- a step that fits the specification is one of its meaning
  pub fitting_step : (n : ℕ) (x : Step) → FitsSpecification catalog n number x → IsFitStep (rules_meaning rules) n x
  fitting_step n (Event e b) fits =
      ((subst (λ k. e.0 < k) letters_of_rules fits.event.event, fits.eight, fits.event.parameters ∙ mask_of_rules e.0), fits.named)
  fitting_step n (Death o) fits = fits
  fitting_step n Pass fits = tt

  small_params : (e : ℕ) → mask_at (table_of catalog number) e < 2 ^ length entry.table.parameters
  small_params e =
      subst (λ m. m < 2 ^ length entry.table.parameters) (sym (mask_of_rules e)) (small_masks rules.masks (2 ^ length entry.table.parameters) (power_some (length entry.table.parameters)) whole.fit e)

  -- and has names
  pub fitting_named : (header : SpecHeader) (objects : List (List ℕ)) (x : Step) → FitsSpecification catalog (length objects) number x → IsNamedStep (lexicon objects (titled entry header rules)) x
  fitting_named header objects (Event e b) fits = (
    subst (λ n. e.0 < n) (sym (length-map entry.table.events (λ (x : EventDefinition). x.name))) (subst (λ (x : EventDefinitions). e.0 < length x.events) there fits.event.event),
    λ p o at. (bound_parameter b (length entry.table.parameters) p o (subst (λ m. m < 2 ^ length entry.table.parameters) (sym fits.event.parameters) (small_params e.0)) at, named_object b (length objects) p o fits.named at),
  )
  fitting_named header objects (Death o) fits = fits
  fitting_named header objects Pass fits = tt

  -- steps that fit it may be done
  pub doable : (own : List (ℕ × Step)) (n : ℕ) → All (λ step. FitsSpecification catalog n number step.1) own → All (λ step. IsFitStep (rules_meaning rules) n step.1) own
  doable own n fits = All-weaker (λ (step : ℕ × Step). FitsSpecification catalog n number step.1) (λ (step : ℕ × Step). IsFitStep (rules_meaning rules) n step.1) (λ step. fitting_step n step.1) own fits

  -- a history of such steps can be printed
  pub history_printable : (header : SpecHeader) (objects : List (List ℕ)) (lists : List (List (ℕ × Step))) (h : List Entry)
      → ((k : ℕ) (own : List (ℕ × Step)) → slice_get lists k ≡ Some own → All (λ step. FitsSpecification catalog (length objects) number step.1) own)
      → IsLegal (rules_meaning rules) h → IsInterleaving h lists → All (IsPrintable (lexicon objects (titled entry header rules))) h
  history_printable header objects lists h fits legal woven =
      let names = lexicon objects (titled entry header rules) in
      let few : handler_count rules.properties ≤ length (names_of rules) = omega (arith, count_names rules) in
      let each : All (λ (e : Entry). IsNamedStep names e.step) h =
      entries_of_lists (λ (x : Step). IsNamedStep names x) lists h
      (λ k own at. All-weaker (λ (step : ℕ × Step). FitsSpecification catalog (length objects) number step.1) (λ (step : ℕ × Step). IsNamedStep names step.1) (λ step. fitting_named header objects step.1) own (fits k own at)) woven in
      printable names (rules_meaning rules) few h each woven.done legal

-- all entries are those of the one caller
one_caller : (xs : List Entry) → AllByRecursion (λ x. x.caller ≡ 0) xs → filter (λ (x : Entry). x.caller == 0) xs ≡ xs
one_caller [] h = refl
one_caller (x ∷ xs) h =
    let here : (x.caller == 0) ≡ true = grind (arith, nat_tests) in
    rw here (ap (λ ys. x ∷ ys) (one_caller xs h.1))

pub woven : (own : List (ℕ × Step)) (h : List Entry) → AreEntriesOf 0 own h → All (λ x. x.outcome ≢ NoMemory) h → IsInterleaving h (own ∷ [])
woven own h each done = record {
  callers = All-weaker (λ (x : Entry). x.caller ≡ 0) (λ (x : Entry). x.caller < 1) (λ x is. omega (arith, is)) h each.by_caller;
  done = done;
  each = λ k less. list_of k less;
}
  where
    list_of : (k : ℕ) → k < 1 → slice_get (own ∷ []) k ≡ Some (steps_of k h)
    list_of zero less =
        ap (λ ss. Some ss) (sym (ap (λ xs. map (λ (x : Entry). (x.line, x.step)) xs) (one_caller h (recursion_from_All (λ (x : Entry). x.caller ≡ 0) h each.by_caller)) ∙ each.in_order))
    list_of (suc k) less = absurd (omega (arith, less))

-- no steps were replayed
pub replayed_none : {D : Type 0} (caller : ℕ) (core : Core D) → Replayed caller [] core core
replayed_none caller core = record {
  added = [];
  grown = record { definition = refl; objects = refl; entries = sym (append-nil core.entries) };
  each = record { by_caller = All-nil (λ (x : Entry). x.caller ≡ caller); in_order = refl };
  done = All-nil (λ (x : Entry). x.outcome ≢ NoMemory);
}

-- steps were replayed, and then others
pub replayed_more : {D : Type 0} (caller : ℕ) (first more : List (ℕ × Step)) (before between after : Core D) → Replayed caller first before between → Replayed caller more between after → Replayed caller (first ++ more) before after
replayed_more caller first more before between after p q = record {
  added = p.added ++ q.added;
  grown = record {
    definition = q.grown.definition ∙ p.grown.definition;
    objects = q.grown.objects ∙ p.grown.objects;
    entries = q.grown.entries ∙ ap (λ es. es ++ q.added) p.grown.entries ∙ append_assoc before.entries p.added q.added;
  };
  each = record {
    by_caller = All-append (λ (x : Entry). x.caller ≡ caller) p.added q.added p.each.by_caller q.each.by_caller;
    in_order = map-append line_and_step p.added q.added ∙ ap (λ xs. xs ++ map line_and_step q.added) p.each.in_order ∙ ap (λ ys. first ++ ys) q.each.in_order;
  };
  done = All-append (λ (x : Entry). x.outcome ≢ NoMemory) p.added q.added p.done q.done;
}

-- what holds of all steps holds of those of a block
pub steps_of_block : (P : ℕ × Step → Type 0) (blocks : List (List ScriptLine)) (k : ℕ) (block : List ScriptLine) → slice_get blocks k ≡ Some block → All P (steps_in 0 blocks) → All P (projection_of (script_of block) 0)
steps_of_block P [] k block at all = absurd (none-some block at)
steps_of_block P (b ∷ blocks) zero block at all = subst (λ (v : List ScriptLine). All P (projection_of (script_of v) 0)) (same_some at) (front (projection_of (script_of b) 0) (steps_in 0 blocks) all)
  where
    front : (xs ys : List (ℕ × Step)) → All P (xs ++ ys) → All P xs
    front [] ys all = All-nil P
    front (x ∷ xs) ys all = All-cons P x xs (All-head P x (xs ++ ys) all) (front xs ys (All-tail P x (xs ++ ys) all))
steps_of_block P (b ∷ blocks) (suc k) block at all = steps_of_block P blocks k block at (behind (projection_of (script_of b) 0) (steps_in 0 blocks) all)
  where
    behind : (xs ys : List (ℕ × Step)) → All P (xs ++ ys) → All P ys
    behind [] ys all = all
    behind (x ∷ xs) ys all = behind xs ys (All-tail P x (xs ++ ys) all)

-- a step that follows the first ones of those that all fit
pub step_fits : (P : ℕ × Step → Type 0) (done : List (ℕ × Step)) (step : ℕ × Step) (rest whole : List (ℕ × Step)) → (done ++ step ∷ []) ++ rest ≡ whole → All P whole → P step
step_fits P [] step rest whole is all = All-head P step rest (subst (All P) (sym is) all)
step_fits P (x ∷ done) step rest whole is all =
    step_fits P done step rest ((done ++ step ∷ []) ++ rest) refl (All-tail P x ((done ++ step ∷ []) ++ rest) (subst (All P) (sym is) all))

pub map_same : {A : Type 0} (xs : List A) → map (λ x. x) xs ≡ xs
map_same [] = refl
map_same (x ∷ xs) = ap (λ l. x ∷ l) (map_same xs)

-- the steps with a block more
pub steps_in-more : (blocks : List (List ScriptLine)) (block : List ScriptLine) → steps_in 0 (blocks ++ block ∷ []) ≡ steps_in 0 blocks ++ projection_of (script_of block) 0
steps_in-more blocks block = flat_map-append (λ (b : List ScriptLine). projection_of (script_of b) 0) blocks (block ∷ []) ∙ ap (λ ys. steps_in 0 blocks ++ ys) (append-nil (projection_of (script_of block) 0))

-- what a core without history has after a replay of the steps
pub replay_of : {D : Type 0} (mean : D → Meaning) (rules : D) (own : List (ℕ × Step)) (before after : Core D) (h : List Entry) → before.definition ≡ rules → before.entries ≡ [] → Replayed 0 own before after
    → IsLegal (mean after.definition) after.entries → h ≡ after.entries → IsReplayOf (mean rules) own h
replay_of {D} mean rules own before after h new none done legal same =
    let all : h ≡ done.added = same ∙ done.grown.entries ∙ ap (λ es. es ++ done.added) none in
    let meant : after.definition ≡ rules = done.grown.definition ∙ new in
    record {
      legal = subst (λ es. IsLegal (mean rules) es) (sym same) (subst (λ m. IsLegal m after.entries) (ap mean meant) legal);
      woven = subst (λ es. IsInterleaving es (own ∷ [])) (sym all) (woven own done.added done.each done.done);
    }

-- its text, where there is one
pub replay_printed : {T E : Type 0} (items : T → List ℕ) (m : Meaning) (steps : List (ℕ × Step)) (l : Lexicon) (h : List Entry) → IsReplayOf m steps h
    → (made : Result T E) → IfOk made (λ text. items text ≡ history_text l h) → IfOk made (λ text. IsPrintedReplay m steps l (items text))
replay_printed items m steps l h valid (Ok text) printed = record { history = h; replayed = valid; printed = printed }
replay_printed items m steps l h valid (Err e) printed = tt

-- ---- the one specification and the one script of `replay`

one_list : (own : List (ℕ × Step)) (k : ℕ) (list : List (ℕ × Step)) → slice_get (own ∷ []) k ≡ Some list → list ≡ own
one_list own zero list at = sym (same_some at)
one_list own (suc k) list at = absurd (none-some list at)

pub replay_printable : (entry : CatalogEntry) (header : SpecHeader) (rules : RuleDefinition) (catalog : List CatalogEntry) → AreRulesOf entry rules → table_of catalog 0 ≡ entry.table → (objects : List (List ℕ)) (own : List (ℕ × Step)) (h : List Entry)
    → All (λ step. FitsSpecification catalog (length objects) 0 step.1) own → IsReplayOf (rules_meaning rules) own h → All (IsPrintable (lexicon objects (titled entry header rules))) h
replay_printable entry header rules catalog whole there objects own h fits is =
    history_printable entry rules whole catalog 0 there header objects (own ∷ []) h
    (λ k list at. subst (All (λ (step : ℕ × Step). FitsSpecification catalog (length objects) 0 step.1)) (sym (one_list own k list at)) fits) is.legal is.woven

pub replay_text : (entry : CatalogEntry) (header : SpecHeader) (rules : RuleDefinition) (script : List ScriptLine) (objects : List (List ℕ)) (text : List ℕ)
    → IsPrintedReplay (rules_meaning rules) (projection_of (script_of script) 0) (lexicon objects (titled entry header rules)) text → IsTextOfHistories (titled entry header rules ∷ []) (script ∷ []) objects text
replay_text entry header rules script objects text h = record {
  histories = h.history ∷ [];
  each = (record { legal = h.replayed.legal; woven = h.replayed.woven }, tt);
  printed = h.printed ∙ sym (append-nil (history_text (lexicon objects (titled entry header rules)) h.history));
}

ordered_text : (entry : CatalogEntry) (header : SpecHeader) (rules : RuleDefinition) (script : List ScriptLine) (objects : List (List ℕ)) (asked : List (List SyncLine)) (text : List ℕ)
    → (h : IsPrintedReplay (rules_meaning rules) (projection_of (script_of script) 0) (lexicon objects (titled entry header rules)) text) → IsOrdered h.history asked → IsTextOfOrdered (titled entry header rules ∷ []) (script ∷ []) asked objects text
unfolding replay_text
ordered_text entry header rules script objects asked text h ordered =
    let made = replay_text entry header rules script objects text h in
    record { histories = made.histories; each = made.each; ordered = All-cons (λ (x : List Entry). IsOrdered x asked) h.history [] ordered (All-nil (λ (x : List Entry). IsOrdered x asked)); printed = made.printed }

single_of : {X : Type 0} (xs ys : List X) (x : X) → xs ≡ ys ++ x ∷ [] → length xs ≡ 1 → xs ≡ x ∷ []
single_of xs [] x e one = e
single_of xs (y ∷ ys) x e one = absurd (omega (arith, one, ap (λ v. length v) e, length_push ys x))

pub first_of : {X : Type 0} (xs : List X) (x : X) → length xs ≡ 1 → x ≡ get_or xs 0 x → xs ≡ x ∷ []
first_of [] x one here = absurd (omega (arith, one))
first_of (y ∷ []) x one here = ap (λ v. v ∷ []) (sym here)
first_of (y ∷ z ∷ xs) x one here = absurd (omega (arith, one))

-- the one entry of a catalog, whose parts were looked up
first_entry : (es : List CatalogEntry) (name : List ℕ) (table : EventDefinitions) → length es ≡ 1 → option_map (λ e. e.name) (slice_get es 0) ≡ Some name → option_map (λ e. e.table) (slice_get es 0) ≡ Some table → es ≡ named_entry name table ∷ []
first_entry [] name table one named there = absurd (omega (arith, one))
first_entry (e ∷ []) name table one named there = let same : e ≡ named_entry name table = (λ i. named_entry (same_some named i) (same_some there i)) in ap (λ v. v ∷ []) same
first_entry (e ∷ d ∷ es) name table one named there = absurd (omega (arith, one))

-- the specification of a spec set of one
module _ (spec_set : SpecSet) (catalogued : IsCatalogued spec_set) (rest : List CompiledSpec) (l : CompiledSpec) (popped : spec_set.specs.items ≡ rest ++ l ∷ []) (one : length spec_set.specs.items ≡ 1) (name : List ℕ) (table : EventDefinitions) (named : option_map (λ e. e.name) (slice_get spec_set.catalog 0) ≡ Some name) (there : option_map (λ e. e.table) (slice_get spec_set.catalog 0) ≡ Some table) where
  alone : listed_in spec_set ≡ listing (named_entry name table) l ∷ []
  alone =
      let entries = first_entry spec_set.catalog name table (catalogued.many ∙ one) named there in
      let kept = single_of spec_set.specs.items rest l popped one in
      λ i. listed (entries i) (kept i)

  pub alone_is : specs_in spec_set ≡ specification_of (listing (named_entry name table) l) ∷ []
  alone_is = ap (λ v. map specification_of v) alone

  pub alone_whole : FitsEntry (listing (named_entry name table) l)
  alone_whole = All-head FitsEntry (listing (named_entry name table) l) [] (subst (All FitsEntry) alone catalogued.kept)

  pub alone_there : table_of (catalog_of (specs_in spec_set)) 0 ≡ table
  alone_there = ap (λ v. table_of (catalog_of v) 0) alone_is

module _ (spec_set : SpecSet) (catalogued : IsCatalogued spec_set) (scripts : Scripts) (counted : AreCounted (specs_in spec_set) scripts) (one_script : length scripts.list.items ≡ 1) (others : List (List ScriptLine)) (script : List ScriptLine) (taken : scripts.list.items ≡ others ++ script ∷ []) where
  pub script_alone : scripts.list.items ≡ script ∷ []
  script_alone = single_of scripts.list.items others script taken one_script

  pub script_fits : FitsCatalog (catalog_of (specs_in spec_set)) (length scripts.objects) script
  script_fits = All-head (FitsCatalog (catalog_of (specs_in spec_set)) (length scripts.objects)) script [] (subst (All (FitsCatalog (catalog_of (specs_in spec_set)) (length scripts.objects))) script_alone counted.fit)

  module _ (rest : List CompiledSpec) (l : CompiledSpec) (popped : spec_set.specs.items ≡ rest ++ l ∷ []) (one : length spec_set.specs.items ≡ 1) (name : List ℕ) (table : EventDefinitions) (named : option_map (λ e. e.name) (slice_get spec_set.catalog 0) ≡ Some name) (there : option_map (λ e. e.table) (slice_get spec_set.catalog 0) ≡ Some table) (own : List (ℕ × Step)) (fits : All (λ step. FitsSpecification (catalog_of (specs_in spec_set)) (length scripts.objects) 0 step.1) own) where
    whole : AreRulesOf (named_entry name table) l.rules.definition
    whole = alone_whole spec_set catalogued rest l popped one name table named there

    at_first : table_of (catalog_of (specs_in spec_set)) 0 ≡ table
    at_first = alone_there spec_set catalogued rest l popped one name table named there

    pub own_doable : All (λ step. IsFitStep (rules_meaning l.rules.definition) (length scripts.objects) step.1) own
    own_doable = doable (named_entry name table) l.rules.definition whole (catalog_of (specs_in spec_set)) 0 at_first own (length scripts.objects) fits

    pub own_printable : (h : List Entry) → IsReplayOf (rules_meaning l.rules.definition) own h → All (IsPrintable (lexicon scripts.objects (titled (named_entry name table) l.header l.rules.definition))) h
    own_printable h is = replay_printable (named_entry name table) l.header l.rules.definition (catalog_of (specs_in spec_set)) whole at_first scripts.objects own h fits is

    pub own_text : own ≡ projection_of (script_of script) 0 → AreSound (sync_of scripts.cuts.items) → (text : List ℕ) → IsPrintedReplay (rules_meaning l.rules.definition) own (lexicon scripts.objects (titled (named_entry name table) l.header l.rules.definition)) text
        → IsTextOfOrdered (specs_in spec_set) scripts.list.items (sync_of scripts.cuts.items) scripts.objects text
    own_text is sound text printed =
        let replayed = subst (λ v. IsPrintedReplay (rules_meaning l.rules.definition) v (lexicon scripts.objects (titled (named_entry name table) l.header l.rules.definition)) text) is printed in
        let rising = All-head (RisesFrom 1) script [] (subst (All (RisesFrom 1)) script_alone counted.steps_rise) in
        let one_cut : length (sync_of scripts.cuts.items) ≡ 1 = length-sync_of scripts.cuts.items ∙ counted.cut ∙ one_script in
        let ordered = lone_order script replayed.history (sync_of scripts.cuts.items) rising replayed.replayed.woven one_cut sound (All-map (λ (lines : List SyncLine). SyncRisesFrom 1 lines) (λ (c : Cut). c.lines.items) scripts.cuts.items counted.rising) in
        let made = ordered_text (named_entry name table) l.header l.rules.definition script scripts.objects (sync_of scripts.cuts.items) text replayed ordered in
        subst (λ v. IsTextOfOrdered v scripts.list.items (sync_of scripts.cuts.items) scripts.objects text) (sym (alone_is spec_set catalogued rest l popped one name table named there))
        (subst (λ v. IsTextOfOrdered (titled (named_entry name table) l.header l.rules.definition ∷ []) v (sync_of scripts.cuts.items) scripts.objects text) (sym script_alone) made)

-- its text, where there is one
pub made_text : {T E : Type 0} (items : T → List ℕ) (P Q : List ℕ → Type 0) (made : Result T E) → ((text : List ℕ) → P text → Q text) → IfOk made (λ text. P (items text)) → IfOk made (λ text. Q (items text))
made_text items P Q (Ok text) turn h = turn (items text) h
made_text items P Q (Err e) turn h = tt
