-- A part of a recording, from its bytes to its text.
use Rattle.std.proofs.Common.{◌≡◌, ℕ, zero, suc, ◌+◌, ◌<◌, ◌≤◌, List, [], ◌∷◌, ◌++◌, length, get_or, take, drop, map, Some, Result, Ok, Err, slice_get, refl, sym, ap, subst, ◌∙◌, arith, ◌-◌, length-take, length-drop}
use Rattle.std.specs.Prelude.{All, IfOk, OnOk, option_map}
use Rattle.std.specs.List.{AllZip}
use Rattle.std.proofs.lemmas.List.{take-append-drop, take_more, drop_more, map-append, length-map, take_all, length-take-le}
use Rattle.std.proofs.lemmas.List.Elements.{All-weaker}
use Rattle.std.proofs.lemmas.Option.{none-some}
use Rattle.jm_model.specs.Meanings.{Meaning}
use Rattle.jm_model.specs.declared.fault.ScriptFault.{ScriptFault}
use Rattle.jm_model.specs.declared.step.Step.{Step}
use Rattle.jm_model.specs.declared.step.Entry.{Entry}
use Rattle.jm_events.specs.Events.{EventDefinitions}
use Rattle.jm_machine.specs.Meanings.{rules_meaning}
use Rattle.jm_print.specs.Texts.{IsPrintable}
use Rattle.jm_script.specs.Answers.{IsReadWhole, IsRefused}
use Rattle.jm_script.specs.Catalogs.{CatalogEntry, table_of}
use Rattle.jm_script.specs.Fitting.{FitsSpecification}
use Rattle.jm_script.specs.Meanings.{ScriptMeaning, script_meaning}
use Rattle.jm_script.specs.Projections.{script_of}
use Rattle.jm_script.specs.declared.script.ScriptLine.{ScriptLine}
use Rattle.jm_semantics.specs.Scripts.{projection_of}
use Rattle.jm_sweep.specs.Recordings.{parts_of, span_text, LiesWithin}
use Rattle.jm_sweep.specs.Sweeps.{Fits, IsReplayOfPart}
use Rattle.jm_inputs.specs.declared.spec_set.SpecSet.{SpecSet}
use Rattle.jm_inputs.specs.declared.specification.CompiledSpec.{CompiledSpec}
use Rattle.jm_inputs.specs.declared.status.Status.{Status}
use Rattle.jm_inputs.specs.declared.status.Status.TheVariants.{Done, Usage, BadSpec, BadScript, ReadFailed, WriteFailed, NoMemory, BadHistory}
use Rattle.jm_top.specs.declared.sweep.Piece.{Piece}
use Rattle.jm_inputs.specs.Specifications.{Specification, most_bytes}
use Rattle.jm_inputs.specs.Scripts.{catalog_of, IsScript, IsScriptFault, in_line, meaning_over}
use Rattle.jm_top.specs.Histories.{lexicon, IsTextOfHistories}
use Rattle.jm_inputs.specs.Reading.{named_entry, titled, AreRulesOf, specs_in}
use Rattle.jm_inputs.specs.Recordings.{SayParts}
use Rattle.jm_top.specs.Replays.{IsReplayOf, IsPrintedReplay}
use Rattle.jm_inputs.specs.Causes.{IsNoScriptIn, IsNoRecordingIn}
use Rattle.jm_top.specs.Sweeps.{IsOfOne, CanReplay, IsPieceOf, HasPart, IsSweptSoFar, IsSweptWhole}
use Rattle.jm_inputs.proofs.OneReadingLemmas.{same_some}
use Rattle.jm_top.proofs.HistoryLemmas.{woven, doable, first_of, alone_is, alone_whole, alone_there, replay_printable, replay_text}
use Rattle.jm_inputs.proofs.RecordingLemmas.{sound_later}
use Rattle.jm_top.proofs.SweptLemmas.{swept_more, swept_fault}

-- a history of a part's steps is that of a replay
pub is_replay : (m : Meaning) (steps : List (ℕ × Step)) (h : List Entry) → IsReplayOfPart m steps h → IsReplayOf m steps h
is_replay m steps h is = record { legal = is.legal; woven = woven steps h is.each is.done }

pub can_replay : (spec_set : SpecSet) (bytes : List ℕ) → IsOfOne spec_set → length bytes ≤ most_bytes → (spans : List (ℕ × ℕ)) → All (LiesWithin bytes) spans → All (CanReplay spec_set bytes) spans
can_replay spec_set bytes one small spans within = All-weaker (LiesWithin bytes) (CanReplay spec_set bytes) (λ span h. record { of_one = one; small = small; within = h }) spans within

pub are_replays : {E : Type 0} (m : Meaning) (steps : List (ℕ × Step)) (r : Result (List Entry) E) → IfOk r (λ h. IsReplayOfPart m steps h) → IfOk r (λ h. IsReplayOf m steps h)
are_replays m steps (Ok h) is = is_replay m steps h is
are_replays m steps (Err e) is = tt

-- ---- a part that is read

pub span_small : (bytes : List ℕ) (span : ℕ × ℕ) → length bytes ≤ most_bytes → length (span_text bytes span) ≤ most_bytes
span_small bytes span small = omega (arith, small, length-take (span.1 - span.0) (drop span.0 bytes), length-drop span.0 bytes)

module _ (specs : List Specification) (catalog : List CatalogEntry) (over : catalog ≡ catalog_of specs) (bytes : List ℕ) (small : length bytes ≤ most_bytes) (count : ℕ) where
  same : script_meaning catalog count bytes [] ≡ meaning_over specs count [] bytes
  same = ap (λ v. script_meaning v count bytes []) over

  pub part_said : (script : List ScriptLine) (objects : List (List ℕ)) (count_then : ℕ) → IsReadWhole (script_meaning catalog count bytes []) count script objects count_then → IsScript specs count [] bytes script objects
  part_said script objects count_then whole = record {
    small = small;
    sound = ap (λ (m : ScriptMeaning). m.fault) (sym same) ∙ whole.sound;
    lines = whole.lines ∙ ap (λ (m : ScriptMeaning). m.lines) same;
    named = whole.named ∙ ap (λ (m : ScriptMeaning). m.names) same;
  }

  pub part_refused : (fault : ScriptFault) (objects : List (List ℕ)) (count_then : ℕ) → IsRefused (script_meaning catalog count bytes []) count fault objects count_then → IsScriptFault specs count [] bytes fault
  part_refused fault objects count_then left = in_line fault small (ap (λ (m : ScriptMeaning). m.fault) (sym same) ∙ left.first)

-- ---- its steps, over the one specification

module _ (spec_set : SpecSet) (is : IsOfOne spec_set) (l : CompiledSpec) (here : l ≡ get_or spec_set.specs.items 0 l) (name : List ℕ) (table : EventDefinitions) (named : option_map (λ e. e.name) (slice_get spec_set.catalog 0) ≡ Some name) (there : option_map (λ e. e.table) (slice_get spec_set.catalog 0) ≡ Some table) (objects : List (List ℕ)) (own : List (ℕ × Step)) (fits : All (λ step. FitsSpecification (catalog_of (specs_in spec_set)) (length objects) 0 step.1) own) where
  alone : spec_set.specs.items ≡ [] ++ l ∷ []
  alone = first_of spec_set.specs.items l is.one here

  whole : AreRulesOf (named_entry name table) l.rules.definition
  whole = alone_whole spec_set is.catalogued [] l alone is.one name table named there

  at_first : table_of (catalog_of (specs_in spec_set)) 0 ≡ table
  at_first = alone_there spec_set is.catalogued [] l alone is.one name table named there

  pub part_fits : (n : ℕ) → n ≡ length objects → Fits (rules_meaning l.rules.definition) n own
  part_fits n many = subst (λ k. Fits (rules_meaning l.rules.definition) k own) (sym many) (doable (named_entry name table) l.rules.definition whole (catalog_of (specs_in spec_set)) 0 at_first own (length objects) fits)

  pub part_printable : (h : List Entry) → IsReplayOf (rules_meaning l.rules.definition) own h → All (IsPrintable (lexicon objects (titled (named_entry name table) l.header l.rules.definition))) h
  part_printable h replayed = replay_printable (named_entry name table) l.header l.rules.definition (catalog_of (specs_in spec_set)) whole at_first objects own h fits replayed

  pub part_text : (script : List ScriptLine) → own ≡ projection_of (script_of script) 0 → (text : List ℕ) → IsPrintedReplay (rules_meaning l.rules.definition) own (lexicon objects (titled (named_entry name table) l.header l.rules.definition)) text
      → IsTextOfHistories (specs_in spec_set) (script ∷ []) objects text
  part_text script projected text printed =
      let made = replay_text (named_entry name table) l.header l.rules.definition script objects text (subst (λ v. IsPrintedReplay (rules_meaning l.rules.definition) v (lexicon objects (titled (named_entry name table) l.header l.rules.definition)) text) projected printed) in
      subst (λ v. IsTextOfHistories v (script ∷ []) objects text) (sym (alone_is spec_set is.catalogued [] l alone is.one name table named there)) made

-- ---- its text after those of other parts

-- a piece that was made as if no part stood before it
pub early_part : (specs : List Specification) (count : ℕ) (bytes : List ℕ) (piece : Piece) (old new : List ℕ) (count_then : ℕ) → IsPieceOf specs 0 bytes piece → count + piece.steps ≤ 200000 → count_then ≡ count + piece.steps → new ≡ old ++ piece.text.items
    → HasPart specs count bytes old new count_then
early_part specs count bytes piece old new count_then is room counted added = record {
  part = is.part;
  text = piece.text.items;
  said = sound_later specs count 0 bytes is.part.script is.part.objects is.said (omega (arith, room, is.counted));
  counted = counted ∙ ap (λ n. count + n) is.counted;
  few = omega (arith, room, counted);
  added = added;
  is_text = is.is_text;
}

-- one that was made after them
pub late_part : (specs : List Specification) (count : ℕ) (bytes : List ℕ) (piece : Piece) (old new : List ℕ) (count_then : ℕ) → IsPieceOf specs count bytes piece → count + piece.steps ≤ 200000 → count_then ≡ count + piece.steps → new ≡ old ++ piece.text.items
    → HasPart specs count bytes old new count_then
late_part specs count bytes piece old new count_then is room counted added = record {
  part = is.part;
  text = piece.text.items;
  said = is.said;
  counted = counted ∙ ap (λ n. count + n) is.counted;
  few = omega (arith, room, counted);
  added = added;
  is_text = is.is_text;
}

-- its text was added, where there was memory
pub early_added : (specs : List Specification) (count : ℕ) (bytes : List ℕ) (piece : Piece) (old new : List ℕ) (r : Result ℕ Status) → IsPieceOf specs 0 bytes piece → count + piece.steps ≤ 200000 → IfOk r (λ n. n ≡ count + piece.steps) → OnOk r (new ≡ old ++ piece.text.items)
    → IfOk r (HasPart specs count bytes old new)
early_added specs count bytes piece old new (Ok n) is room counted added = early_part specs count bytes piece old new n is room counted added
early_added specs count bytes piece old new (Err e) is room counted added = tt

pub late_added : (specs : List Specification) (count : ℕ) (bytes : List ℕ) (piece : Piece) (old new : List ℕ) (r : Result ℕ Status) → IsPieceOf specs count bytes piece → count + piece.steps ≤ 200000 → IfOk r (λ n. n ≡ count + piece.steps) → OnOk r (new ≡ old ++ piece.text.items)
    → IfOk r (HasPart specs count bytes old new)
late_added specs count bytes piece old new (Ok n) is room counted added = late_part specs count bytes piece old new n is room counted added
late_added specs count bytes piece old new (Err e) is room counted added = tt

-- ---- the loop over the parts

-- what holds of each pair holds at each place
pub zip_length : {X Y : Type 0} (P : X → Y → Type 0) (xs : List X) (ys : List Y) → AllZip P xs ys → length xs ≡ length ys
zip_length P [] [] h = refl
zip_length P [] (y ∷ ys) h = absurd h
zip_length P (x ∷ xs) [] h = absurd h
zip_length P (x ∷ xs) (y ∷ ys) h = omega (arith, zip_length P xs ys h.1)

pub zip_at : {X Y : Type 0} (P : X → Y → Type 0) (xs : List X) (ys : List Y) → AllZip P xs ys → (i : ℕ) (x : X) (y : Y) → i < length xs → x ≡ get_or xs i x → y ≡ get_or ys i y → P x y
zip_at P [] ys h i x y lt here there = absurd (omega (arith, lt))
zip_at P (a ∷ xs) [] h i x y lt here there = absurd h
zip_at P (a ∷ xs) (b ∷ ys) h zero x y lt here there = subst (λ v. P v y) (sym here) (subst (P a) (sym there) h.0)
zip_at P (a ∷ xs) (b ∷ ys) h (suc i) x y lt here there = zip_at P xs ys h.1 i x y (omega (arith, lt)) here there

pub at_place : {X : Type 0} (xs : List X) (i : ℕ) (x : X) → slice_get xs i ≡ Some x → x ≡ get_or xs i x
at_place [] i x at = absurd (none-some x at)
at_place (y ∷ xs) zero x at = sym (same_some at)
at_place (y ∷ xs) (suc i) x at = at_place xs i x at

module _ (spec_set : SpecSet) (bytes : List ℕ) (spans : List (ℕ × ℕ)) (split : map (span_text bytes) spans ≡ parts_of bytes) where
  -- a turn
  pub turn_ok : (i : ℕ) (span : ℕ × ℕ) → i < length spans → span ≡ get_or spans i span → (count : ℕ) (old new : List ℕ) (count_then : ℕ) → IsSweptSoFar (specs_in spec_set) (map (span_text bytes) (take i spans)) count old
      → HasPart (specs_in spec_set) count (span_text bytes span) old new count_then → IsSweptSoFar (specs_in spec_set) (map (span_text bytes) (take (i + 1) spans)) count_then new
  turn_ok i span lt here count old new count_then before h =
      let more : map (span_text bytes) (take (i + 1) spans) ≡ map (span_text bytes) (take i spans) ++ span_text bytes span ∷ [] =
      ap (map (span_text bytes)) (take_more spans i span lt ∙ ap (λ v. take i spans ++ v ∷ []) (sym here)) ∙ map-append (span_text bytes) (take i spans) (span ∷ []) in
      subst (λ v. IsSweptSoFar (specs_in spec_set) v count_then new) (sym more) (swept_more (specs_in spec_set) (map (span_text bytes) (take i spans)) count old (span_text bytes span) new count_then before h)

  pub turn_err : length bytes ≤ most_bytes → (i : ℕ) (span : ℕ × ℕ) → i < length spans → span ≡ get_or spans i span → (count : ℕ) (old : List ℕ) → IsSweptSoFar (specs_in spec_set) (map (span_text bytes) (take i spans)) count old → (status : Status)
      → IsNoScriptIn (specs_in spec_set) count [] i (span_text bytes span) status → IsNoRecordingIn (specs_in spec_set) bytes status
  turn_err small i span lt here count old before (BadScript number fault) h =
      let whole : spans ≡ take i spans ++ span ∷ drop (i + 1) spans = sym (take-append-drop i spans) ∙ ap (λ v. take i spans ++ v) (drop_more spans i span lt ∙ ap (λ v. v ∷ drop (i + 1) spans) (sym here)) in
      let parted : parts_of bytes ≡ map (span_text bytes) (take i spans) ++ span_text bytes span ∷ map (span_text bytes) (drop (i + 1) spans) =
      sym split ∙ ap (map (span_text bytes)) whole ∙ map-append (span_text bytes) (take i spans) (span ∷ drop (i + 1) spans) in
      let many : length (map (span_text bytes) (take i spans)) ≡ i = length-map (take i spans) (span_text bytes) ∙ length-take-le i spans (omega (arith, lt)) in
      swept_fault (specs_in spec_set) bytes (map (span_text bytes) (take i spans)) (map (span_text bytes) (drop (i + 1) spans)) (span_text bytes span) count old number fault small parted (h.0 ∙ sym many) before h.1
  turn_err small i span lt here count old before NoMemory h = tt
  turn_err small i span lt here count old before Done h = absurd h
  turn_err small i span lt here count old before Usage h = absurd h
  turn_err small i span lt here count old before (BadSpec f x) h = absurd h
  turn_err small i span lt here count old before (ReadFailed f) h = absurd h
  turn_err small i span lt here count old before WriteFailed h = absurd h
  turn_err small i span lt here count old before BadHistory h = absurd h

  pub all_turns : length bytes ≤ most_bytes → (i : ℕ) → length spans ≤ i → (count : ℕ) (text : List ℕ) → IsSweptSoFar (specs_in spec_set) (map (span_text bytes) (take i spans)) count text → IsSweptWhole (specs_in spec_set) bytes text
  all_turns small i all count text h =
      let whole : map (span_text bytes) (take i spans) ≡ parts_of bytes = ap (map (span_text bytes)) (take_all i spans all) ∙ split in
      record {
        parts = h.parts;
        said = record { small = small; said = subst (λ v. SayParts (specs_in spec_set) 0 v h.parts) whole h.said };
        is_text = h.is_text;
      }
