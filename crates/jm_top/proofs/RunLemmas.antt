-- Runs of scripts over specifications, and the texts of their histories.
use Rattle.std.proofs.Common.{◌≡◌, ℕ, zero, suc, ◌+◌, ◌-◌, ◌^◌, ◌<◌, ◌≤◌, List, [], ◌∷◌, ◌++◌, length, Option, Some, refl, sym, ap, subst, ◌∙◌, arith}
use Rattle.std.specs.Prelude.{All, map, slice_get, option_map}
use Rattle.std.specs.Option.{option_map_or}
use Rattle.std.proofs.lemmas.Option.{slice_get-map, none-some}
use Rattle.std.proofs.lemmas.List.{length-map, map-append}
use Rattle.std.proofs.lemmas.List.Elements.{All-head, All-tail, All-map, All-weaker}
use Rattle.jm_model.specs.declared.step.Step.{Step}
use Rattle.jm_model.specs.declared.step.Entry.{Entry}
use Rattle.jm_semantics.specs.Legality.{IsLegal}
use Rattle.jm_semantics.specs.Scripts.{projection_of, IsInterleaving}
use Rattle.jm_core.specs.Cores.{Core}
use Rattle.jm_turn.specs.Seats.{LockModel, SeatModel}
use Rattle.jm_dispatch.specs.declared.watched.Fixed.{Fixed}
use Rattle.jm_sync.specs.declared.line.SyncLine.{SyncLine}
use Rattle.jm_sync.specs.declared.line.Cut.{Cut}
use Rattle.jm_sync.specs.Checks.{sync_of}
use Rattle.jm_runner.specs.Orders.{IsOrdered}
use Rattle.jm_runner.specs.Runs.{projections_of, AreFitSteps, CanRun, IsRunOf}
use Rattle.jm_print.specs.Texts.{IsPrintable}
use Rattle.jm_print.specs.Told.{texts_of}
use Rattle.jm_print.specs.Summaries.{summary_text}
use Rattle.jm_script.specs.Catalogs.{CatalogEntry, table_of}
use Rattle.jm_script.specs.Fitting.{FitsCatalog, FitsSpecification}
use Rattle.jm_script.specs.Projections.{script_of}
use Rattle.jm_script.specs.declared.script.ScriptLine.{ScriptLine}
use Rattle.jm_script.proofs.FittingLemmas.{projection_fits}
use Rattle.jm_machine.specs.Meanings.{rules_meaning}
use Rattle.jm_machine.specs.RuleSets.{CompiledRules}
use Rattle.jm_inputs.specs.declared.specification.SpecHeader.{SpecHeader}
use Rattle.jm_inputs.specs.declared.specification.CompiledSpec.{CompiledSpec}
use Rattle.jm_inputs.specs.declared.spec_set.SpecSet.{SpecSet}
use Rattle.jm_inputs.specs.declared.scripts.Scripts.{Scripts}
use Rattle.jm_inputs.specs.Specifications.{Specification}
use Rattle.jm_inputs.specs.Scripts.{entry_of, catalog_of}
use Rattle.jm_inputs.specs.Reading.{Listed, listing, listed, titled, listed_in, specification_of, FitsEntry, specs_in, IsCatalogued, AreCounted}
use Rattle.jm_top.specs.Histories.{lexicon, IsHistoryOf, AreHistoriesFrom, IsTextOfOrdered, summaries_of, IsTextOfSummaries}
use Rattle.jm_top.specs.Runs.{IsWatchOf, AreWatchesOf, AreRunsOf}
use Rattle.jm_inputs.proofs.OneReadingLemmas.{same_some}
use Rattle.jm_inputs.proofs.SpecSetLemmas.{length-listed}
use Rattle.jm_top.proofs.HistoryLemmas.{doable, history_printable}
use Rattle.jm_top.specs.Printing.{titled_by, ArePrintable, entry_summaries}

-- ---- a specification in its catalog

at_map : {A B : Type 0} (f : A → B) (xs : List A) (k : ℕ) (x : A) → slice_get xs k ≡ Some x → slice_get (map f xs) k ≡ Some (f x)
at_map {A} {B} f xs k x at = slice_get-map f xs k ∙ ap (option_map f) at

entry_there : (o : Option CatalogEntry) (e : CatalogEntry) → o ≡ Some e → option_map_or (λ x. x.table) o (record { parameters = []; events = [] }) ≡ e.table
entry_there o e at = ap (λ v. option_map_or (λ (x : CatalogEntry). x.table) v (record { parameters = []; events = [] })) at

pub table_at : (ls : List Listed) (k : ℕ) (l : Listed) → slice_get ls k ≡ Some l → table_of (catalog_of (map specification_of ls)) k ≡ l.entry.table
table_at ls k l at = entry_there (slice_get (catalog_of (map specification_of ls)) k) (entry_of (specification_of l)) (at_map entry_of (map specification_of ls) k (specification_of l) (at_map specification_of ls k l at))

All-at : {X : Type 0} (P : X → Type 0) (xs : List X) (k : ℕ) (x : X) → All P xs → slice_get xs k ≡ Some x → P x
All-at P [] k x all at = absurd (none-some x at)
All-at P (y ∷ xs) zero x all at = subst P (same_some at) (All-head P y xs all)
All-at P (y ∷ xs) (suc k) x all at = All-at P xs k x (All-tail P y xs all) at

-- the projections of scripts that fit the catalog fit the specification of their number
projected : (catalog : List CatalogEntry) (names number : ℕ) (scripts : List (List ScriptLine)) → All (FitsCatalog catalog names) scripts
    → All (λ steps. All (λ (step : ℕ × Step). FitsSpecification catalog names number step.1) steps) (projections_of scripts number)
projected catalog names number scripts fit =
    All-map (λ steps. All (λ (step : ℕ × Step). FitsSpecification catalog names number step.1) steps) (λ script. projection_of (script_of script) number) scripts
    (All-weaker (FitsCatalog catalog names) (λ script. All (λ (step : ℕ × Step). FitsSpecification catalog names number step.1) (projection_of (script_of script) number)) (λ script fits. projection_fits catalog names number script fits) scripts fit)

module _ (spec_set : SpecSet) (scripts : Scripts) (catalogued : IsCatalogued spec_set) (counted : AreCounted (specs_in spec_set) scripts) (k : ℕ) (l : Listed) (at : slice_get (listed_in spec_set) k ≡ Some l) where
  whole_at : FitsEntry l
  whole_at = All-at FitsEntry (listed_in spec_set) k l catalogued.kept at

  -- so they can be run
  pub fitting_at : All (λ steps. AreFitSteps (rules_meaning l.rules.definition) (length scripts.objects) steps) (projections_of scripts.list.items k)
  fitting_at =
      All-weaker (λ steps. All (λ (step : ℕ × Step). FitsSpecification (catalog_of (specs_in spec_set)) (length scripts.objects) k step.1) steps) (λ steps. AreFitSteps (rules_meaning l.rules.definition) (length scripts.objects) steps)
      (λ steps fits. doable l.entry l.rules.definition whole_at (catalog_of (specs_in spec_set)) k (table_at (listed_in spec_set) k l at) steps (length scripts.objects) fits) (projections_of scripts.list.items k)
      (projected (catalog_of (specs_in spec_set)) (length scripts.objects) k scripts.list.items counted.fit)

  -- and their histories can be printed
  pub printable_at : (h : List Entry) → IsLegal (rules_meaning l.rules.definition) h → IsInterleaving h (projections_of scripts.list.items k) → All (IsPrintable (lexicon scripts.objects (specification_of l))) h
  printable_at h legal woven =
      history_printable l.entry l.rules.definition whole_at (catalog_of (specs_in spec_set)) k (table_at (listed_in spec_set) k l at) l.header scripts.objects (projections_of scripts.list.items k) h
      (λ j own here. All-at (λ steps. All (λ (step : ℕ × Step). FitsSpecification (catalog_of (specs_in spec_set)) (length scripts.objects) k step.1) steps) (projections_of scripts.list.items k) j own (projected (catalog_of (specs_in spec_set)) (length scripts.objects) k scripts.list.items counted.fit) here) legal woven

-- ---- dispatchers

pub watches_more : (objects seats : ℕ) (ls : List CompiledSpec) (watches : List (LockModel (Fixed CompiledRules))) (alls : List (List (SeatModel Entry (Fixed CompiledRules)))) (l : CompiledSpec) (watch : LockModel (Fixed CompiledRules)) (all : List (SeatModel Entry (Fixed CompiledRules)))
    → AreWatchesOf objects seats ls watches alls → IsWatchOf objects seats l.rules watch all → AreWatchesOf objects seats (ls ++ l ∷ []) (watches ++ watch ∷ []) (alls ++ all ∷ [])
watches_more objects seats [] [] [] l watch all h is = (is, tt)
watches_more objects seats (x ∷ ls) (w ∷ watches) (a ∷ alls) l watch all h is = (h.0, watches_more objects seats ls watches alls l watch all h.1 is)
watches_more objects seats [] [] (a ∷ alls) l watch all h is = absurd h
watches_more objects seats [] (w ∷ watches) alls l watch all h is = absurd h
watches_more objects seats (x ∷ ls) [] alls l watch all h is = absurd h
watches_more objects seats (x ∷ ls) (w ∷ watches) [] l watch all h is = absurd h

pub watches_length : (objects seats : ℕ) (ls : List CompiledSpec) (watches : List (LockModel (Fixed CompiledRules))) (alls : List (List (SeatModel Entry (Fixed CompiledRules)))) → AreWatchesOf objects seats ls watches alls → length watches ≡ length ls
watches_length objects seats [] [] [] h = refl
watches_length objects seats (x ∷ ls) (w ∷ watches) (a ∷ alls) h = omega (arith, watches_length objects seats ls watches alls h.1)
watches_length objects seats [] [] (a ∷ alls) h = absurd h
watches_length objects seats [] (w ∷ watches) alls h = absurd h
watches_length objects seats (x ∷ ls) [] alls h = absurd h
watches_length objects seats (x ∷ ls) (w ∷ watches) [] h = absurd h

-- the dispatcher of a number is one of that specification
pub watch_at : (objects seats : ℕ) (ls : List CompiledSpec) (watches : List (LockModel (Fixed CompiledRules))) (alls : List (List (SeatModel Entry (Fixed CompiledRules)))) (k : ℕ) (watch : LockModel (Fixed CompiledRules)) (all : List (SeatModel Entry (Fixed CompiledRules)))
    → AreWatchesOf objects seats ls watches alls → slice_get watches k ≡ Some watch → slice_get alls k ≡ Some all → (l : CompiledSpec) × (slice_get ls k ≡ Some l) × IsWatchOf objects seats l.rules watch all
watch_at objects seats [] [] [] k watch all h at there = absurd (none-some watch at)
watch_at objects seats (x ∷ ls) (w ∷ watches) (a ∷ alls) zero watch all h at there =
    (x, refl, subst (λ v. IsWatchOf objects seats x.rules v all) (same_some at) (subst (λ v. IsWatchOf objects seats x.rules w v) (same_some there) h.0))
watch_at objects seats (x ∷ ls) (w ∷ watches) (a ∷ alls) (suc k) watch all h at there = watch_at objects seats ls watches alls k watch all h.1 at there
watch_at objects seats [] [] (a ∷ alls) k watch all h at there = absurd h
watch_at objects seats [] (w ∷ watches) alls k watch all h at there = absurd h
watch_at objects seats (x ∷ ls) [] alls k watch all h at there = absurd h
watch_at objects seats (x ∷ ls) (w ∷ watches) [] k watch all h at there = absurd h

-- ---- texts

-- each history is one of its specification
histories_from : (number : ℕ) (ls : List Listed) (scripts : List (List ScriptLine)) (ps : List (Core CompiledRules)) → length ps ≡ length ls
    → ((k : ℕ) (l : Listed) (p : Core CompiledRules) → slice_get ls k ≡ Some l → slice_get ps k ≡ Some p → IsHistoryOf (number + k) (specification_of l) scripts p.entries)
    → AreHistoriesFrom number (map specification_of ls) scripts (map (λ (p : Core CompiledRules). p.entries) ps)
histories_from number [] scripts [] same each = tt
histories_from number [] scripts (p ∷ ps) same each = absurd (omega (arith, same))
histories_from number (l ∷ ls) scripts [] same each = absurd (omega (arith, same))
histories_from number (l ∷ ls) scripts (p ∷ ps) same each =
    let none : number + 0 ≡ number = omega arith in (
      subst (λ n. IsHistoryOf n (specification_of l) scripts p.entries) none (each 0 l p refl refl),
      histories_from (number + 1) ls scripts ps (omega (arith, same))
          (λ k m q at there. let next : number + suc k ≡ (number + 1) + k = omega arith in subst (λ n. IsHistoryOf n (specification_of m) scripts q.entries) next (each (suc k) m q at there)),
    )

printables_from : (objects : List (List ℕ)) (ls : List Listed) (ps : List (Core CompiledRules))
    → ((k : ℕ) (l : Listed) (p : Core CompiledRules) → slice_get ls k ≡ Some l → slice_get ps k ≡ Some p → All (IsPrintable (lexicon objects (specification_of l))) p.entries)
    → ArePrintable (map (lexicon objects) (map specification_of ls)) (map (λ (p : Core CompiledRules). p.entries) ps)
printables_from objects [] ps each = tt
printables_from objects (l ∷ ls) [] each = tt
printables_from objects (l ∷ ls) (p ∷ ps) each = (each 0 l p refl refl, printables_from objects ls ps (λ k m q at there. each (suc k) m q at there))

summaries_are : (es : List CatalogEntry) (ls : List CompiledSpec) (hs : List (List Entry)) → length es ≡ length ls → entry_summaries es hs ≡ summaries_of (map specification_of (listed es ls)) hs
summaries_are [] ls hs same = refl
summaries_are (e ∷ es) [] hs same = absurd (omega (arith, same))
summaries_are (e ∷ es) (l ∷ ls) [] same = refl
summaries_are (e ∷ es) (l ∷ ls) (h ∷ hs) same = ap (λ v. summary_text e.name h ++ v) (summaries_are es ls hs (omega (arith, same)))

-- ---- what is kept under the entries

titled_listed : (es : List CatalogEntry) (ls : List CompiledSpec) → titled_by es (map (λ (l : CompiledSpec). l.header) ls) (map (λ (l : CompiledSpec). l.rules) ls) ≡ map specification_of (listed es ls)
titled_listed [] ls = refl
titled_listed (e ∷ es) [] = refl
titled_listed (e ∷ es) (l ∷ ls) = ap (λ rest. titled e l.header l.rules.definition ∷ rest) (titled_listed es ls)

kept_at : (es : List CatalogEntry) (ls : List CompiledSpec) (k : ℕ) (x : Listed) → slice_get (listed es ls) k ≡ Some x → (l : CompiledSpec) × (slice_get ls k ≡ Some l) × (l.rules ≡ x.rules)
kept_at [] ls k x at = absurd (none-some x at)
kept_at (e ∷ es) [] k x at = absurd (none-some x at)
kept_at (e ∷ es) (l ∷ ls) zero x at = (l, refl, ap (λ (v : Listed). v.rules) (same_some at))
kept_at (e ∷ es) (l ∷ ls) (suc k) x at = kept_at es ls k x at

entry_for : (es : List CatalogEntry) (ls : List CompiledSpec) (k : ℕ) (l : CompiledSpec) → length es ≡ length ls → slice_get ls k ≡ Some l → (e : CatalogEntry) × (slice_get (listed es ls) k ≡ Some (listing e l))
entry_for [] [] k l same at = absurd (none-some l at)
entry_for [] (m ∷ ls) k l same at = absurd (omega (arith, same))
entry_for (e ∷ es) [] k l same at = absurd (none-some l at)
entry_for (e ∷ es) (m ∷ ls) zero l same at = (e, ap (λ v. Some (listing e v)) (same_some at))
entry_for (e ∷ es) (m ∷ ls) (suc k) l same at = entry_for es ls k l (omega (arith, same)) at

-- as many cores as specifications
ruled_many : (spec_set : SpecSet) (scripts : Scripts) (headers : List SpecHeader) (ps : List (Core CompiledRules)) → AreRunsOf spec_set.specs.items scripts.list.items (sync_of scripts.cuts.items) headers ps → length ps ≡ length spec_set.specs.items
ruled_many spec_set scripts headers ps runs =
    sym (length-map ps (λ (p : Core CompiledRules). p.definition)) ∙ ap (λ rs. length rs) runs.ruled ∙ length-map spec_set.specs.items (λ (l : CompiledSpec). l.rules)

module _ (spec_set : SpecSet) (scripts : Scripts) (catalogued : IsCatalogued spec_set) (counted : AreCounted (specs_in spec_set) scripts) (headers : List SpecHeader) (ps : List (Core CompiledRules)) (runs : AreRunsOf spec_set.specs.items scripts.list.items (sync_of scripts.cuts.items) headers ps) where
  run_history : (k : ℕ) (l : Listed) (p : Core CompiledRules) → slice_get (listed_in spec_set) k ≡ Some l → slice_get ps k ≡ Some p → IsHistoryOf k (specification_of l) scripts.list.items p.entries
  run_history k l p at there =
      let (own, place, same) = kept_at spec_set.catalog spec_set.specs.items k l at in
      record { legal = subst (λ (d : CompiledRules). IsLegal (rules_meaning d.definition) p.entries) same (runs.legal k own p place there); woven = runs.woven k own p place there }

  run_specs : titled_by spec_set.catalog headers (map (λ (p : Core CompiledRules). p.definition) ps) ≡ specs_in spec_set
  run_specs = rw (runs.titled, runs.ruled) (titled_listed spec_set.catalog spec_set.specs.items)

  pub runs_printable : ArePrintable (map (lexicon scripts.objects) (titled_by spec_set.catalog headers (map (λ (p : Core CompiledRules). p.definition) ps))) (map (λ (p : Core CompiledRules). p.entries) ps)
  runs_printable =
      subst (λ specs. ArePrintable (map (lexicon scripts.objects) specs) (map (λ (p : Core CompiledRules). p.entries) ps)) (sym run_specs)
      (printables_from scripts.objects (listed_in spec_set) ps
      (λ k l p at there. let h = run_history k l p at there in printable_at spec_set scripts catalogued counted k l at p.entries h.legal h.woven))

  run_histories : AreHistoriesFrom 0 (specs_in spec_set) scripts.list.items (map (λ (p : Core CompiledRules). p.entries) ps)
  run_histories = histories_from 0 (listed_in spec_set) scripts.list.items ps (ruled_many spec_set scripts headers ps runs ∙ sym (length-listed spec_set.catalog spec_set.specs.items catalogued.many))
      (λ k l p at there. let same : 0 + k ≡ k = omega arith in
      subst (λ n. IsHistoryOf n (specification_of l) scripts.list.items p.entries) (sym same) (run_history k l p at there))

  pub runs_text : (text : List ℕ) → text ≡ texts_of (map (lexicon scripts.objects) (titled_by spec_set.catalog headers (map (λ (p : Core CompiledRules). p.definition) ps))) (map (λ (p : Core CompiledRules). p.entries) ps) → IsTextOfOrdered (specs_in spec_set) scripts.list.items (sync_of scripts.cuts.items) scripts.objects text
  runs_text text printed = record {
    histories = map (λ (p : Core CompiledRules). p.entries) ps;
    each = run_histories;
    ordered = All-map (λ (h : List Entry). IsOrdered h (sync_of scripts.cuts.items)) (λ (p : Core CompiledRules). p.entries) ps runs.ordered;
    printed = printed ∙ ap (λ specs. texts_of (map (lexicon scripts.objects) specs) (map (λ (p : Core CompiledRules). p.entries) ps)) run_specs;
  }

  pub runs_summaries : (text : List ℕ) → text ≡ entry_summaries spec_set.catalog (map (λ (p : Core CompiledRules). p.entries) ps) → IsTextOfSummaries (specs_in spec_set) scripts.list.items text
  runs_summaries text printed = record {
    histories = map (λ (p : Core CompiledRules). p.entries) ps;
    each = run_histories;
    printed = printed ∙ summaries_are spec_set.catalog spec_set.specs.items (map (λ (p : Core CompiledRules). p.entries) ps) catalogued.many;
  }

-- the names of a command's scripts have numbers that a board can have
pub names_within : (specs : List Specification) (scripts : Scripts) → AreCounted specs scripts → length scripts.list.items ≤ 16 → All (λ (cut : Cut). All (λ (l : SyncLine). l.name < 2 ^ 32 - 1) cut.lines.items) scripts.cuts.items
names_within specs scripts counted few =
    All-weaker (λ (cut : Cut). All (λ (l : SyncLine). l.name < length scripts.posted) cut.lines.items) (λ (cut : Cut). All (λ (l : SyncLine). l.name < 2 ^ 32 - 1) cut.lines.items)
    (λ cut low. All-weaker (λ (l : SyncLine). l.name < length scripts.posted) (λ (l : SyncLine). l.name < 2 ^ 32 - 1) (λ l less. omega (arith, less, counted.few_posted, few)) cut.lines.items low) scripts.cuts.items counted.numbered

-- what was run is what the scripts had to do
pub runs_of : (spec_set : SpecSet) (scripts : Scripts) → IsCatalogued spec_set → AreCounted (specs_in spec_set) scripts → (objects : ℕ) → objects ≡ length scripts.objects → (watches : List (LockModel (Fixed CompiledRules))) (alls : List (List (SeatModel Entry (Fixed CompiledRules)))) (k : ℕ) (watch : LockModel (Fixed CompiledRules)) (all : List (SeatModel Entry (Fixed CompiledRules)))
    → (seats : ℕ) → seats ≡ length scripts.list.items → AreWatchesOf objects seats spec_set.specs.items watches alls → slice_get watches k ≡ Some watch → slice_get alls k ≡ Some all → CanRun (rules_meaning watch.fixed.definition.definition) scripts.list.items k watch all
runs_of spec_set scripts catalogued counted objects named watches alls k watch all seats many are at there =
    let found = watch_at objects seats spec_set.specs.items watches alls k watch all are at there in
    let l = found.0 in
    let is = found.2 in
    let place = entry_for spec_set.catalog spec_set.specs.items k l catalogued.many found.1 in
    let definition : watch.fixed.definition ≡ l.rules = ap (λ (f : Fixed CompiledRules). f.definition) is.fixed in
    let many_objects : watch.fixed.objects ≡ length scripts.objects = ap (λ (f : Fixed CompiledRules). f.objects) is.fixed ∙ named in
    record {
      count = is.count ∙ many;
      all = is.many ∙ many;
      newcomers = is.newcomers;
      fitting = subst (λ (d : CompiledRules). All (λ steps. AreFitSteps (rules_meaning d.definition) watch.fixed.objects steps) (projections_of scripts.list.items k)) (sym definition)
          (subst (λ n. All (λ steps. AreFitSteps (rules_meaning l.rules.definition) n steps) (projections_of scripts.list.items k)) (sym many_objects) (fitting_at spec_set scripts catalogued counted k (listing place.0 l) place.1));
    }

-- as many headers as cores
pub runs_many : (spec_set : SpecSet) (scripts : Scripts) (headers : List SpecHeader) (ps : List (Core CompiledRules)) → AreRunsOf spec_set.specs.items scripts.list.items (sync_of scripts.cuts.items) headers ps → length headers ≡ length ps
runs_many spec_set scripts headers ps runs = ap (λ ts. length ts) runs.titled ∙ length-map spec_set.specs.items (λ (l : CompiledSpec). l.header) ∙ sym (ruled_many spec_set scripts headers ps runs)

-- as many entries as headers
pub runs_titled : (spec_set : SpecSet) (scripts : Scripts) (headers : List SpecHeader) (ps : List (Core CompiledRules)) → IsCatalogued spec_set → AreRunsOf spec_set.specs.items scripts.list.items (sync_of scripts.cuts.items) headers ps → length spec_set.catalog ≡ length headers
runs_titled spec_set scripts headers ps catalogued runs = catalogued.many ∙ sym (ap (λ ts. length ts) runs.titled ∙ length-map spec_set.specs.items (λ (l : CompiledSpec). l.header))

-- cores that have the rules of these specifications, place by place
rules_are : (ls : List CompiledSpec) (ps : List (Core CompiledRules)) → length ps ≡ length ls → ((k : ℕ) (l : CompiledSpec) (p : Core CompiledRules) → slice_get ls k ≡ Some l → slice_get ps k ≡ Some p → p.definition ≡ l.rules)
    → map (λ (p : Core CompiledRules). p.definition) ps ≡ map (λ (l : CompiledSpec). l.rules) ls
rules_are [] [] same each = refl
rules_are [] (p ∷ ps) same each = absurd (omega (arith, same))
rules_are (l ∷ ls) [] same each = absurd (omega (arith, same))
rules_are (l ∷ ls) (p ∷ ps) same each =
    let here = each 0 l p refl refl in
    let rest = rules_are ls ps (omega (arith, same)) (λ k m q at there. each (suc k) m q at there) in
    λ i. here i ∷ rest i

-- ---- dispatchers as they are kept

module _ {R : Type 0} (watch_of : R → LockModel (Fixed CompiledRules)) (seats_of : R → List (SeatModel Entry (Fixed CompiledRules))) (objects seats : ℕ) where
  pub watches_push : (ls : List CompiledSpec) (l : CompiledSpec) (rs new : List R) (r : R) → AreWatchesOf objects seats ls (map watch_of rs) (map seats_of rs) → IsWatchOf objects seats l.rules (watch_of r) (seats_of r) → new ≡ rs ++ r ∷ []
      → AreWatchesOf objects seats (ls ++ l ∷ []) (map watch_of new) (map seats_of new)
  watches_push ls l rs new r h is pushed =
      let watches : map watch_of new ≡ map watch_of rs ++ watch_of r ∷ [] = ap (map watch_of) pushed ∙ map-append watch_of rs (r ∷ []) in
      let alls : map seats_of new ≡ map seats_of rs ++ seats_of r ∷ [] = ap (map seats_of) pushed ∙ map-append seats_of rs (r ∷ []) in
      subst (λ v. AreWatchesOf objects seats (ls ++ l ∷ []) v (map seats_of new)) (sym watches)
      (subst (λ v. AreWatchesOf objects seats (ls ++ l ∷ []) (map watch_of rs ++ watch_of r ∷ []) v) (sym alls) (watches_more objects seats ls (map watch_of rs) (map seats_of rs) l (watch_of r) (seats_of r) h is))

  pub watches_many : (ls : List CompiledSpec) (rs : List R) → AreWatchesOf objects seats ls (map watch_of rs) (map seats_of rs) → length rs ≡ length ls
  watches_many ls rs h = sym (length-map rs watch_of) ∙ watches_length objects seats ls (map watch_of rs) (map seats_of rs) h

  watch_for : (ls : List CompiledSpec) (rs : List R) (k : ℕ) (l : CompiledSpec) → AreWatchesOf objects seats ls (map watch_of rs) (map seats_of rs) → slice_get ls k ≡ Some l → (r : R) × (slice_get rs k ≡ Some r) × IsWatchOf objects seats l.rules (watch_of r) (seats_of r)
  watch_for [] rs k l h at = absurd (none-some l at)
  watch_for (x ∷ ls) [] k l h at = absurd h
  watch_for (x ∷ ls) (r ∷ rs) zero l h at = (r, refl, subst (λ (v : CompiledSpec). IsWatchOf objects seats v.rules (watch_of r) (seats_of r)) (same_some at) h.0)
  watch_for (x ∷ ls) (r ∷ rs) (suc k) l h at = watch_for ls rs k l h.1 at

  -- what the run of the dispatchers gave
  pub runs_from : (ls : List CompiledSpec) (scripts : List (List ScriptLine)) (asked : List (List SyncLine)) (headers : List SpecHeader) (ps : List (Core CompiledRules)) (rs : List R) → headers ≡ map (λ (l : CompiledSpec). l.header) ls → length ps ≡ length rs
      → AreWatchesOf objects seats ls (map watch_of rs) (map seats_of rs)
      → ((s : ℕ) (r : R) (p : Core CompiledRules) → slice_get rs s ≡ Some r → slice_get ps s ≡ Some p → IsRunOf (rules_meaning (watch_of r).fixed.definition.definition) scripts s (watch_of r).fixed p) → All (λ (p : Core CompiledRules). IsOrdered p.entries asked) ps → AreRunsOf ls scripts asked headers ps
  runs_from ls scripts asked headers ps rs headers_are many are each ordered = record {
    titled = headers_are;
    ruled = rules_are ls ps (many ∙ watches_many ls rs are) (λ k l p at there.
        let found = watch_for ls rs k l are at in
        (each k found.0 p found.1 there).definition ∙ ap (λ (f : Fixed CompiledRules). f.definition) found.2.fixed);
    legal = λ k l p at there.
        let found = watch_for ls rs k l are at in
        subst (λ (d : CompiledRules). IsLegal (rules_meaning d.definition) p.entries) (ap (λ (f : Fixed CompiledRules). f.definition) found.2.fixed) (each k found.0 p found.1 there).legal;
    woven = λ k l p at there.
        let found = watch_for ls rs k l are at in
        (each k found.0 p found.1 there).interleaving;
    ordered = ordered;
  }

  -- they can run
  pub ready_at : (spec_set : SpecSet) (scripts : Scripts) → IsCatalogued spec_set → AreCounted (specs_in spec_set) scripts → objects ≡ length scripts.objects → seats ≡ length scripts.list.items → (rs : List R)
      → AreWatchesOf objects seats spec_set.specs.items (map watch_of rs) (map seats_of rs) → (s : ℕ) (r : R) → slice_get rs s ≡ Some r → CanRun (rules_meaning (watch_of r).fixed.definition.definition) scripts.list.items s (watch_of r) (seats_of r)
  ready_at spec_set scripts catalogued counted named many rs are s r at =
      runs_of spec_set scripts catalogued counted objects named (map watch_of rs) (map seats_of rs) s (watch_of r) (seats_of r) seats many are (at_map watch_of rs s r at) (at_map seats_of rs s r at)
