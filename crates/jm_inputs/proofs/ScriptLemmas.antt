-- Scripts, read one after the other.
use Rattle.std.proofs.Common.{◌≡◌, ℕ, ◌+◌, ◌*◌, ◌<◌, ◌≤◌, ◌^◌, Bool, true, false, List, [], ◌∷◌, ◌++◌, length, get_or, take, drop, Option, Some, Result, Ok, Err, refl, sym, ap, subst, ◌∙◌, inl, inr, arith, length-append}
use Rattle.std.specs.Prelude.{map, All, OnOk}
use Rattle.std.proofs.lemmas.List.{length-take-le, take_all, length_push, map-append}
use Rattle.std.proofs.lemmas.List.Elements.{All-nil, All-push, All-weaker}
use Rattle.jm_model.specs.declared.fault.ScriptFault.{ScriptFault}
use Rattle.jm_script.specs.declared.script.ScriptLine.{ScriptLine}
use Rattle.jm_script.specs.Catalogs.{CatalogEntry}
use Rattle.jm_script.specs.Meanings.{script_meaning}
use Rattle.jm_script.specs.Answers.{IsReadWhole, IsRefused}
use Rattle.jm_script.specs.Fitting.{FitsCatalog}
use Rattle.jm_script.specs.Meanings.{RisesFrom as StepsRiseFrom}
use Rattle.jm_script.proofs.FittingLemmas.{FitsCatalog-more}
use Rattle.jm_sync.specs.declared.line.SyncLine.{SyncLine}
use Rattle.jm_sync.specs.declared.line.Cut.{Cut}
use Rattle.jm_sync.specs.Checks.{AreSound, sync_of}
use Rattle.jm_sync.specs.Cuts.{Request, RisesFrom, rest_of, request_of, names_with, names_behind, names_after, sync_lines_of}
use Rattle.jm_sync.proofs.CutLemmas.{IsExtension-none, IsExtension-names_with, length-names_after}
use Rattle.jm_lines.specs.Lines.{lines_of}
use Rattle.jm_inputs.specs.declared.scripts.Scripts.{Scripts}
use Rattle.jm_inputs.specs.declared.status.Status.{Status}
use Rattle.jm_inputs.specs.Sources.{Source}
use Rattle.jm_inputs.specs.Specifications.{Specification, most_bytes}
use Rattle.jm_inputs.specs.Scripts.{catalog_of, meaning_over, IsScript, steps_text, IsScriptFile, IsScriptFileFault, in_file}
use Rattle.jm_inputs.specs.Inputs.{step_count, SayScripts, lines_in, names_in, asked_by}
use Rattle.jm_inputs.specs.Causes.{IsNoOrder, IsNoScript, StopsScripts}
use Rattle.jm_inputs.specs.Reading.{AreCounted, HasSteps, AreLeft, HasScript, HasScriptFrom, AreScriptsRead, AreScriptsOf}
use Rattle.jm_inputs.proofs.SilentLemmas.{AsItStands}
use Rattle.jm_inputs.proofs.NameLemmas.{first_kept}
use Rattle.jm_inputs.proofs.InputLemmas.{split_sources, more_sources, length-sources, length-scripts, scripts_more, step_count-more, asked_more, names_more}

-- ---- names that are posted or waited for

grown_with : (names : List (List ℕ)) (r : Option Request) → length names ≤ length (names_with names r)
grown_with names r =
    let more = IsExtension-names_with names names r (IsExtension-none names) in
    omega (arith, ap (λ v. length v) more.at_end, length-append names more.added)

grown_behind : (names lines : List (List ℕ)) → length names ≤ length (names_behind names lines)
grown_behind names [] = omega arith
grown_behind names (line ∷ lines) = omega (arith, grown_with names (request_of line), grown_behind (names_with names (request_of line)) lines)

grown_after : (names : List (List ℕ)) (bytes : List ℕ) → length names ≤ length (names_after names bytes)
unfolding names_after
grown_after names bytes = grown_behind names (lines_of bytes)

-- there is room for the names of one script more
pub room_after : (names : List (List ℕ)) (bytes : List ℕ) (n : ℕ) → length names ≤ n * 4194305 → n < 16 → length bytes ≤ most_bytes → length (names_after names bytes) < 2 ^ 32
room_after names bytes n few less small = omega (arith, length-names_after names bytes, few, less, small)

-- names that are kept, or those after a script
grown_in : (ordered : Bool) (names : List (List ℕ)) (bytes : List ℕ) → length names ≤ length (names_in ordered names bytes)
grown_in true names bytes = grown_after names bytes
grown_in false names bytes = omega arith

length-names_in : (ordered : Bool) (names : List (List ℕ)) (bytes : List ℕ) → length (names_in ordered names bytes) ≤ length names + length bytes + 1
length-names_in true names bytes = length-names_after names bytes
length-names_in false names bytes = omega arith

-- ---- one script more, as its bytes stand

module _ (specs : List Specification) (catalog : List CatalogEntry) (over : catalog ≡ catalog_of specs) (bytes : List ℕ) (small : length bytes ≤ most_bytes) where
  pub steps_added : (old new : Scripts) (script : List ScriptLine) (cut : Cut) (lines : List SyncLine) → IsReadWhole (script_meaning catalog old.count bytes old.objects) old.count script new.objects new.count → FitsCatalog catalog (length new.objects) script
      → StepsRiseFrom 1 script → new.count ≤ 200000 → length new.objects ≤ 65536 → length old.objects ≤ length new.objects → new.list.items ≡ old.list.items ++ script ∷ [] → cut.lines.items ≡ lines → new.cuts.items ≡ old.cuts.items ++ cut ∷ [] → new.posted ≡ old.posted
      → HasSteps specs bytes lines old new
  steps_added old new script cut lines whole fits rising steps names grown scripts asked cuts posted =
      let same : script_meaning catalog old.count bytes old.objects ≡ meaning_over specs old.count old.objects bytes = ap (λ v. script_meaning v old.count bytes old.objects) over in
      record {
        script = script;
        said = record {
          small = small;
          sound = ap (λ m. m.fault) (sym same) ∙ whole.sound;
          lines = whole.lines ∙ ap (λ m. m.lines) same;
          named = whole.named ∙ ap (λ m. m.names) same;
        };
        fits = subst (λ v. FitsCatalog v (length new.objects) script) over fits;
        steps_rise = rising;
        grown = grown;
        scripts = scripts;
        longer = whole.counted;
        few_steps = steps;
        few_names = names;
        cut = cut;
        asked = asked;
        cuts = cuts;
        posted = posted;
      }

  pub steps_refused : (old : Scripts) (fault : ScriptFault) (objects : List (List ℕ)) (count : ℕ) → IsRefused (script_meaning catalog old.count bytes old.objects) old.count fault objects count → (meaning_over specs old.count old.objects bytes).fault ≡ Some fault
  steps_refused old fault objects count left = ap (λ v. (script_meaning v old.count bytes old.objects).fault) (sym over) ∙ left.first

-- ---- one script more

-- the middle: the names are kept that the file posts or waits for, and nothing else is
pub record IsMiddle (ordered : Bool) (bytes : List ℕ) (old middle : Scripts) : Type 0 where
  pub list : middle.list.items ≡ old.list.items
  pub objects : middle.objects ≡ old.objects
  pub count : middle.count ≡ old.count
  pub cuts : middle.cuts.items ≡ old.cuts.items
  pub posted : middle.posted ≡ names_in ordered old.posted bytes

module _ (ordered : Bool) (specs : List Specification) (bytes : List ℕ) (small : length bytes ≤ most_bytes) (text : List ℕ) (text_is : text ≡ steps_text ordered bytes) where
  pub script_added : (old middle new : Scripts) (lines : List SyncLine) → AreCounted specs old → IsMiddle ordered bytes old middle → lines ≡ lines_in ordered old.posted bytes → RisesFrom 1 lines → All (λ (l : SyncLine). l.name < length middle.posted) lines
      → HasSteps specs text lines middle new → HasScript ordered specs bytes old new
  script_added old middle new lines before is lines_are rises numbered h =
      let posted : new.posted ≡ names_in ordered old.posted bytes = h.posted ∙ is.posted in
      let same_posted : length new.posted ≡ length middle.posted = ap (λ v. length v) h.posted in
      let more : length old.posted ≤ length new.posted = omega (arith, grown_in ordered old.posted bytes, ap (λ v. length v) posted) in
      let scripts : new.list.items ≡ old.list.items ++ h.script ∷ [] = h.scripts ∙ ap (λ v. v ++ h.script ∷ []) is.list in
      let cuts : new.cuts.items ≡ old.cuts.items ++ h.cut ∷ [] = h.cuts ∙ ap (λ v. v ++ h.cut ∷ []) is.cuts in
      let one : length new.list.items ≡ length old.list.items + 1 = ap (λ v. length v) scripts ∙ length_push old.list.items h.script in
      let one_cut : length new.cuts.items ≡ length old.cuts.items + 1 = ap (λ v. length v) cuts ∙ length_push old.cuts.items h.cut in
      let grown : length old.objects ≤ length new.objects = omega (arith, h.grown, ap (λ v. length v) is.objects) in
      record {
        script = h.script;
        said = record {
          small = small;
          said = subst (λ v. IsScript specs old.count old.objects v h.script new.objects) text_is
              (subst (λ v. IsScript specs old.count v text h.script new.objects) is.objects (subst (λ n. IsScript specs n middle.objects text h.script new.objects) is.count h.said));
        };
        scripts = scripts;
        longer = h.longer ∙ ap (λ n. n + length h.script) is.count;
        asked = ap sync_of cuts ∙ map-append (λ (c : Cut). c.lines.items) old.cuts.items (h.cut ∷ []) ∙ ap (λ v. sync_of old.cuts.items ++ v ∷ []) (h.asked ∙ lines_are);
        posted = posted;
        counted = record {
          fit = subst (All (FitsCatalog (catalog_of specs) (length new.objects))) (sym scripts)
              (All-push (FitsCatalog (catalog_of specs) (length new.objects)) old.list.items h.script
              (All-weaker (FitsCatalog (catalog_of specs) (length old.objects)) (FitsCatalog (catalog_of specs) (length new.objects)) (FitsCatalog-more (catalog_of specs) (length old.objects) (length new.objects) grown) old.list.items before.fit) h.fits);
          steps_rise = subst (All (StepsRiseFrom 1)) (sym scripts) (All-push (StepsRiseFrom 1) old.list.items h.script before.steps_rise h.steps_rise);
          few_steps = h.few_steps;
          few_names = h.few_names;
          cut = omega (arith, one, one_cut, before.cut);
          rising = subst (All (λ (c : Cut). RisesFrom 1 c.lines.items)) (sym cuts) (All-push (λ (c : Cut). RisesFrom 1 c.lines.items) old.cuts.items h.cut before.rising (subst (RisesFrom 1) (sym h.asked) rises));
          numbered = subst (All (λ (c : Cut). All (λ (l : SyncLine). l.name < length new.posted) c.lines.items)) (sym cuts)
              (All-push (λ (c : Cut). All (λ (l : SyncLine). l.name < length new.posted) c.lines.items) old.cuts.items h.cut
              (All-weaker (λ (c : Cut). All (λ (l : SyncLine). l.name < length old.posted) c.lines.items) (λ (c : Cut). All (λ (l : SyncLine). l.name < length new.posted) c.lines.items)
              (λ c low. All-weaker (λ (l : SyncLine). l.name < length old.posted) (λ (l : SyncLine). l.name < length new.posted) (λ l less. omega (arith, more, less)) c.lines.items low) old.cuts.items before.numbered)
              (subst (All (λ (l : SyncLine). l.name < length new.posted)) (sym h.asked) (subst (λ n. All (λ (l : SyncLine). l.name < n) lines) (sym same_posted) numbered)));
          few_posted = omega (arith, length-names_in ordered old.posted bytes, ap (λ v. length v) posted, before.few_posted, one, small);
        };
      }

  pub script_refused : (old middle : Scripts) (fault : ScriptFault) → IsMiddle ordered bytes old middle → (meaning_over specs middle.count middle.objects text).fault ≡ Some fault → IsScriptFileFault ordered specs old.count old.objects bytes fault
  script_refused old middle fault is first =
      in_file fault small
      (subst (λ v. (meaning_over specs old.count old.objects v).fault ≡ Some fault) text_is
      (subst (λ v. (meaning_over specs old.count v text).fault ≡ Some fault) is.objects (subst (λ n. (meaning_over specs n middle.objects text).fault ≡ Some fault) is.count first)))

-- a script that is cut, or read as it stands
module _ (ordered : Bool) (specs : List Specification) (bytes : List ℕ) (small : length bytes ≤ most_bytes) where
  kept_middle : AsItStands ordered bytes → (old : Scripts) → IsMiddle ordered bytes old old
  kept_middle h old = record { list = refl; objects = refl; count = refl; cuts = refl; posted = h.names old.posted }

  pub script_kept : AsItStands ordered bytes → (old new : Scripts) (lines : List SyncLine) → lines ≡ [] → AreCounted specs old → HasSteps specs bytes lines old new → HasScript ordered specs bytes old new
  script_kept stands old new lines none before h =
      script_added ordered specs bytes small bytes stands.text old old new lines before (kept_middle stands old) (none ∙ stands.lines old.posted) (subst (RisesFrom 1) (sym none) tt)
      (subst (All (λ (l : SyncLine). l.name < length old.posted)) (sym none) (All-nil (λ (l : SyncLine). l.name < length old.posted))) h

  pub kept_refused : AsItStands ordered bytes → (old : Scripts) (fault : ScriptFault) → (meaning_over specs old.count old.objects bytes).fault ≡ Some fault → IsScriptFileFault ordered specs old.count old.objects bytes fault
  kept_refused stands old fault first = script_refused ordered specs bytes small bytes stands.text old old fault (kept_middle stands old) first

-- a script that is cut
module _ (specs : List Specification) (bytes : List ℕ) (small : length bytes ≤ most_bytes) (text : List ℕ) (text_is : text ≡ rest_of bytes) (old : Scripts) (names : List (List ℕ)) (names_are : names ≡ names_after old.posted bytes) where
  cut_middle : IsMiddle true bytes old (record old { posted = names })
  cut_middle = record { list = refl; objects = refl; count = refl; cuts = refl; posted = names_are }

  pub script_cut : (new : Scripts) (lines : List SyncLine) → AreCounted specs old → lines ≡ sync_lines_of old.posted bytes → RisesFrom 1 lines → All (λ (l : SyncLine). l.name < length names) lines
      → HasSteps specs text lines (record old { posted = names }) new → HasScript true specs bytes old new
  script_cut new lines before asked rises numbered h = script_added true specs bytes small text text_is old (record old { posted = names }) new lines before cut_middle asked rises numbered h

  pub cut_refused : (fault : ScriptFault) → (meaning_over specs old.count old.objects text).fault ≡ Some fault → IsScriptFileFault true specs old.count old.objects bytes fault
  cut_refused fault first = script_refused true specs bytes small text text_is old (record old { posted = names }) fault cut_middle first

-- a script that was refused leaves the others as they were, once the names of its objects are taken back
pub taken_back : (old left : Scripts) (number : ℕ) (names : List (List ℕ)) → AreLeft old left → number ≡ length old.objects → names ≡ take number left.objects → record left { objects = names; count = old.count } ≡ old
taken_back old left number names refused many first =
    let objects : names ≡ old.objects = first ∙ ap (λ n. take n left.objects) many ∙ first_kept old.objects left.objects refused.names in
    λ i. record { list = refused.list i; objects = objects i; count = old.count; cuts = refused.cuts i; posted = refused.posted i }

pub ok_then : {V E : Type 0} (P Q : Type 0) (r : Result V E) → (P → Q) → OnOk r P → OnOk r Q
ok_then P Q (Ok v) f h = f h
ok_then P Q (Err e) f h = tt

module _ (contents : List ℕ → Option (List ℕ)) (ordered : Bool) (specs : List Specification) where
  pub no_scripts : (count : ℕ) (s : Scripts) → s.list.items ≡ [] → s.objects ≡ [] → s.count ≡ count → s.cuts.items ≡ [] → s.posted ≡ [] → AreCounted specs s → AreScriptsRead contents ordered specs count [] s
  no_scripts count s none unnamed same uncut unposted counted =
      let steps : step_count s.list.items ≡ 0 = ap step_count none in
      record { texts = []; said = (none, unnamed, refl); many = omega (arith, same, steps); asked = ap sync_of uncut; posted = unposted; counted = counted }

-- ---- what scripts ask for is checked

module _ (contents : List ℕ → Option (List ℕ)) (ordered : Bool) (specs : List Specification) (files count : ℕ) (sources : List Source) (s : Scripts) (read : AreScriptsRead contents ordered specs count sources s) where
  pub in_order : AreSound (sync_of s.cuts.items) → AreScriptsOf contents ordered specs count sources s
  in_order sound = record { read = read; sound = sound }

  pub not_in_order : (status : Status) → IsNoOrder (sync_of s.cuts.items) status → StopsScripts contents ordered specs files count sources status
  not_in_order status wrong = inr (record { scripts = s.list.items; objects = s.objects; texts = read.texts; said = read.said; wrong = subst (λ v. IsNoOrder v status) read.asked wrong })

-- ---- the loop over the names

module _ {S : Type 0} (make : List ℕ → Source) (g : S → List ℕ) (contents : List ℕ → Option (List ℕ)) (ordered : Bool) (specs : List Specification) (files count : ℕ) (xs : List S) (i : ℕ) (x : S) (lt : i < length xs) (here : x ≡ get_or xs i x) where
  pub scripts_read_more : (old new : Scripts) → AreScriptsRead contents ordered specs count (map make (map g (take i xs))) old → HasScriptFrom contents (make (g x)) ordered specs old new → AreScriptsRead contents ordered specs count (map make (map g (take (i + 1) xs))) new
  scripts_read_more old new before h =
      let steps : step_count new.list.items ≡ step_count old.list.items + length h.next.script = ap step_count h.next.scripts ∙ step_count-more old.list.items h.next.script in
      record {
        texts = before.texts ++ h.bytes ∷ [];
        said = subst (λ v. SayScripts contents ordered specs count [] v new.list.items new.objects (before.texts ++ h.bytes ∷ [])) (sym (more_sources make g xs i x lt here))
            (subst (λ v. SayScripts contents ordered specs count [] (map make (map g (take i xs)) ++ make (g x) ∷ []) v new.objects (before.texts ++ h.bytes ∷ [])) (sym h.next.scripts)
            (scripts_more contents ordered specs count [] (map make (map g (take i xs))) old.list.items old.objects before.texts (make (g x)) h.bytes h.next.script new.objects before.said h.given
            (subst (λ n. IsScriptFile ordered specs n old.objects h.bytes h.next.script new.objects) before.many h.next.said)));
        many = omega (arith, h.next.longer, before.many, steps);
        asked =
            h.next.asked
            ∙ ap (λ v. v ++ lines_in ordered old.posted h.bytes ∷ []) before.asked
            ∙ ap (λ v. asked_by ordered before.texts ++ lines_in ordered v h.bytes ∷ []) before.posted
            ∙ sym (asked_more ordered [] before.texts h.bytes);
        posted = h.next.posted ∙ ap (λ v. names_in ordered v h.bytes) before.posted ∙ sym (names_more ordered [] before.texts h.bytes);
        counted = h.next.counted;
      }

  pub scripts_stop : (old : Scripts) (status : Status) → AreScriptsRead contents ordered specs count (map make (map g (take i xs))) old → IsNoScript contents ordered specs files old.count old.objects (length old.list.items) (make (g x)) status → StopsScripts contents ordered specs files count (map make (map g xs)) status
  scripts_stop old status before h = inl
      (record {
        number = length old.list.items;
        source = make (g x);
        before = old.list.items;
        names = old.objects;
        reached = record {
          first = map make (map g (take i xs));
          rest = map make (map g (drop (i + 1) xs));
          texts = before.texts;
          split = split_sources make g xs i x lt here;
          numbered = length-scripts contents ordered specs count [] (map make (map g (take i xs))) old.list.items old.objects before.texts before.said;
          read = before.said;
        };
        stopped = subst (λ n. IsNoScript contents ordered specs files n old.objects (length old.list.items) (make (g x)) status) before.many h;
      })

module _ {S : Type 0} (make : List ℕ → Source) (g : S → List ℕ) (contents : List ℕ → Option (List ℕ)) (ordered : Bool) (specs : List Specification) (count : ℕ) (xs : List S) where
  pub scripts_length : (scripts : Scripts) → AreScriptsRead contents ordered specs count (map make (map g xs)) scripts → length scripts.list.items ≡ length xs
  scripts_length scripts h = length-scripts contents ordered specs count [] (map make (map g xs)) scripts.list.items scripts.objects h.texts h.said ∙ length-sources make g xs

-- ---- a turn of the loop, where the folder holds later what it held before

module _ {S : Type 0} (make : List ℕ → Source) (g : S → List ℕ) (contents later : List ℕ → Option (List ℕ)) (same : (name : List ℕ) → later name ≡ contents name) (ordered : Bool) (specs : List Specification) (files count : ℕ) (xs : List S) (i : ℕ) (x : S) (lt : i < length xs) (here : x ≡ get_or xs i x) (name : List ℕ) (is : name ≡ g x) where
  held : later ≡ contents
  held = λ j n. same n j

  pub scripts_turn : (old new : Scripts) → AreScriptsRead contents ordered specs count (map make (map g (take i xs))) old → HasScriptFrom later (make name) ordered specs old new → AreScriptsRead contents ordered specs count (map make (map g (take (i + 1) xs))) new
  scripts_turn old new before h =
      scripts_read_more make g contents ordered specs files count xs i x lt here old new before
      (subst (λ (v : List ℕ → Option (List ℕ)). HasScriptFrom v (make (g x)) ordered specs old new) held (subst (λ n. HasScriptFrom later (make n) ordered specs old new) is h))

  pub scripts_end : (old : Scripts) (status : Status) → AreScriptsRead contents ordered specs count (map make (map g (take i xs))) old → IsNoScript later ordered specs files old.count old.objects (length old.list.items) (make name) status → StopsScripts contents ordered specs files count (map make (map g xs)) status
  scripts_end old status before h =
      scripts_stop make g contents ordered specs files count xs i x lt here old status before
      (subst (λ (v : List ℕ → Option (List ℕ)). IsNoScript v ordered specs files old.count old.objects (length old.list.items) (make (g x)) status) held (subst (λ n. IsNoScript later ordered specs files old.count old.objects (length old.list.items) (make n) status) is h))

module _ {S : Type 0} (make : List ℕ → Source) (g : S → List ℕ) (contents : List ℕ → Option (List ℕ)) (ordered : Bool) (specs : List Specification) (count : ℕ) (xs : List S) (i : ℕ) where
  pub scripts_count : (scripts : Scripts) → i ≤ length xs → AreScriptsRead contents ordered specs count (map make (map g (take i xs))) scripts → length scripts.list.items ≡ i
  scripts_count scripts le h = scripts_length make g contents ordered specs count (take i xs) scripts h ∙ length-take-le i xs le

  pub whole_scripts : (scripts : Scripts) → length xs ≤ i → AreScriptsRead contents ordered specs count (map make (map g (take i xs))) scripts → AreScriptsRead contents ordered specs count (map make (map g xs)) scripts
  whole_scripts scripts all h = subst (λ v. AreScriptsRead contents ordered specs count (map make (map g v)) scripts) (take_all i xs all) h
