-- The parts of a recording, one after another.
use Rattle.std.proofs.Common.{◌≡◌, ℕ, ◌+◌, ◌≤◌, Bool, true, false, List, [], ◌∷◌, ◌++◌, length, Option, Some, None, Result, Ok, Err, if◌then◌else◌, nat_lt, nat_le, slice_index, refl, sym, ap, subst, ◌∙◌, arith}
use Rattle.std.proofs.lemmas.Bool.{lt-ltb}
use Rattle.jm_model.specs.declared.fault.ScriptFault.{ScriptFault}
use Rattle.jm_lines.specs.Lines.{words_of}
use Rattle.jm_events.specs.Names.{number_of}
use Rattle.jm_script.specs.Catalogs.{CatalogEntry, spec_names}
use Rattle.jm_script.specs.Events.{named_event, spread}
use Rattle.jm_script.specs.Meanings.{LineMeaning, ScriptMeaning, mentioning, event_meaning, pass_meaning, step_meaning, statement_meaning, words_meaning, line_meaning, with_line, steps_of, led_by, lines_meaning, script_meaning}
use Rattle.jm_script.specs.Statements.{Statement, Event, Death, Pass, statement_of}
use Rattle.jm_script.specs.declared.event.NamedEvent.{NamedEvent}
use Rattle.jm_script.specs.declared.script.Target.{Target}
use Rattle.jm_script.specs.declared.script.Target.TheVariants as target
use Rattle.jm_script.specs.declared.script.ScriptLine.{ScriptLine}
use Rattle.jm_script.specs.Objects.{numbers_of, mentioned}
use Rattle.jm_inputs.specs.Specifications.{Specification}
use Rattle.jm_inputs.specs.Scripts.{catalog_of, IsScript, IsScriptFault}
use Rattle.jm_inputs.specs.Recordings.{RecordedPart, steps_of_parts, SayParts, IsRecording, IsRecordingFault, too_long, in_part}
use Rattle.jm_inputs.proofs.OneReadingLemmas.{never_some}
use Rattle.jm_inputs.proofs.InputLemmas.{script_has_no_fault}

module _ (specs : List Specification) where
  -- one part more
  pub parts_more : (count : ℕ) (texts : List (List ℕ)) (parts : List RecordedPart) (text : List ℕ) (part : RecordedPart) → SayParts specs count texts parts → IsScript specs (count + steps_of_parts parts) [] text part.script part.objects
      → SayParts specs count (texts ++ text ∷ []) (parts ++ part ∷ [])
  parts_more count [] parts text part none is =
      let zero : count + steps_of_parts parts ≡ count = ap (λ v. count + steps_of_parts v) none ∙ omega arith in
      (part, [], ap (λ v. v ++ part ∷ []) none, subst (λ n. IsScript specs n [] text part.script part.objects) zero is, refl)
  parts_more count (t ∷ texts) parts text part (first, more, e, said, rest) is =
      let counts : count + steps_of_parts parts ≡ (count + length first.script) + steps_of_parts more = ap (λ v. count + steps_of_parts v) e ∙ omega arith in
      (first, more ++ part ∷ [], ap (λ v. v ++ part ∷ []) e, said, parts_more (count + length first.script) texts more text part rest (subst (λ n. IsScript specs n [] text part.script part.objects) counts is))

  pub steps_more : (parts : List RecordedPart) (part : RecordedPart) → steps_of_parts (parts ++ part ∷ []) ≡ steps_of_parts parts + length part.script
  steps_more [] part = omega arith
  steps_more (p ∷ parts) part = omega (arith, steps_more parts part)

  -- ---- parts that have no fault

  part_or_fault : (count : ℕ) (first rest : List (List ℕ)) (text : List ℕ) (parts some : List RecordedPart) (fault : ScriptFault) → SayParts specs count (first ++ text ∷ rest) parts → SayParts specs count first some
      → IsScriptFault specs (count + steps_of_parts some) [] text fault → ⊥
  part_or_fault count [] rest text parts some fault (part, more, e, said, others) none is =
      let zero : count + steps_of_parts some ≡ count = ap (λ v. count + steps_of_parts v) none ∙ omega arith in
      script_has_no_fault specs count [] text part.script part.objects fault said (subst (λ n. IsScriptFault specs n [] text fault) zero is)
  part_or_fault count (t ∷ first) rest text parts some fault (part, more, e, said, others) (one, behind, f, tells, most) is =
      let same : part.script ≡ one.script = said.lines ∙ sym tells.lines in
      let counts : count + steps_of_parts some ≡ (count + length one.script) + steps_of_parts behind = ap (λ v. count + steps_of_parts v) f ∙ omega arith in
      part_or_fault (count + length one.script) first rest text more behind fault (subst (λ v. SayParts specs (count + length v) (first ++ text ∷ rest) more) same others) most (subst (λ n. IsScriptFault specs n [] text fault) counts is)

  pub recording_has_no_fault : (bytes : List ℕ) (parts : List RecordedPart) (number : ℕ) (fault : ScriptFault) → IsRecording specs bytes parts → IsRecordingFault specs bytes number fault → ⊥
  recording_has_no_fault bytes parts _ _ told (too_long more) = omega (arith, more, told.small)
  recording_has_no_fault bytes parts _ _ told (in_part number first rest text before fault small split numbered said is) =
      let none : steps_of_parts before ≡ 0 + steps_of_parts before = omega arith in
      part_or_fault 0 first rest text parts before fault (subst (λ v. SayParts specs 0 v parts) split told.said) said (subst (λ n. IsScriptFault specs n [] text fault) none is)

-- ---- a script after fewer steps

chosen : {A E : Type 0} (b : Bool) (x y : A) (fault : E) → ◌≡◌ {A = Result A E} (if b then Ok x else Err fault) (Ok y) → x ≡ y
chosen true x y fault e = cc e
chosen false x y fault e = absurd cc

-- a step has a target
mentions_some : (line : ℕ) (names objects : List (List ℕ)) (target_of : List ℕ → Target) (m : LineMeaning) → mentioning line names objects target_of ≡ Ok m → steps_of m.target ≡ 1
mentions_some line names objects target_of m e =
    let is = chosen (nat_le (length (mentioned names objects)) 65536) (record { target = Some (target_of (numbers_of names objects)); names = mentioned names objects }) m _ e in
    ap (λ (x : LineMeaning). steps_of x.target) (sym is)

event_some : (line : ℕ) (names objects : List (List ℕ)) (r : Result NamedEvent ScriptFault) (m : LineMeaning) → event_meaning line names objects r ≡ Ok m → steps_of m.target ≡ 1
event_some line names objects (Err fault) m e = absurd cc
event_some line names objects (Ok event) m e = mentions_some line names objects (λ numbers. target.Event event.spec event.letter (spread 8 event.mask numbers)) m e

pass_some : (line : ℕ) (names : List (List ℕ)) (o : Option ℕ) (m : LineMeaning) → pass_meaning line names o ≡ Ok m → steps_of m.target ≡ 1
pass_some line names None m e = absurd cc
pass_some line names (Some spec) m e = ap (λ (x : LineMeaning). steps_of x.target) (sym (the_ok _ m e))
  where
    the_ok : (x y : LineMeaning) → ◌≡◌ {A = Result LineMeaning ScriptFault} (Ok x) (Ok y) → x ≡ y
    the_ok x y e = cc e

step_some : (catalog : List CatalogEntry) (line : ℕ) (names : List (List ℕ)) (statement : Statement) (m : LineMeaning) → step_meaning catalog line names statement ≡ Ok m → steps_of m.target ≡ 1
step_some catalog line names (Event spec event objects) m e = event_some line names objects (named_event catalog line spec event (length objects)) m e
step_some catalog line names (Death object) m e = mentions_some line names (object ∷ []) (λ numbers. target.Death (slice_index numbers 0)) m e
step_some catalog line names (Pass spec) m e = pass_some line names (number_of (spec_names catalog) spec) m e

module _ (catalog : List CatalogEntry) (count less : ℕ) (line : ℕ) (names : List (List ℕ)) (m : LineMeaning) where
  step_later : (statement : Statement) (b : Bool) → nat_lt less 200000 ≡ b → statement_meaning catalog less line names (Some statement) ≡ Ok m → count + steps_of m.target ≤ 200000 → statement_meaning catalog count line names (Some statement) ≡ Ok m
  step_later statement true early e room =
      let is : step_meaning catalog line names statement ≡ Ok m = rw early at e in
      let one = step_some catalog line names statement m is in
      let late : nat_lt count 200000 ≡ true = lt-ltb count 200000 (omega (arith, room, one)) in
      rw late is
  step_later statement false early e room = absurd (no_step (rw early at e))
    where
      no_step : {fault : ScriptFault} → ◌≡◌ {A = Result LineMeaning ScriptFault} (Err fault) (Ok m) → ⊥
      no_step e = absurd cc

  words_later : (words : List (List ℕ)) → words_meaning catalog less line names words ≡ Ok m → count + steps_of m.target ≤ 200000 → words_meaning catalog count line names words ≡ Ok m
  words_later [] e room = e
  words_later (word ∷ words) e room = by_case (statement_of word words) e
    where
      by_case : (o : Option Statement) → statement_meaning catalog less line names o ≡ Ok m → statement_meaning catalog count line names o ≡ Ok m
      by_case None e = e
      by_case (Some statement) e = step_later statement (nat_lt less 200000) refl e room

  line_later : (bytes : List ℕ) → line_meaning catalog less line bytes names ≡ Ok m → count + steps_of m.target ≤ 200000 → line_meaning catalog count line bytes names ≡ Ok m
  unfolding line_meaning
  line_later bytes e room = words_later (words_of bytes) e room

pub with_line_fault : (line : ℕ) (target : Option Target) (m : ScriptMeaning) → (with_line line target m).fault ≡ m.fault
with_line_fault line None m = refl
with_line_fault line (Some target) m = refl

pub with_line_length : (line : ℕ) (target : Option Target) (m : ScriptMeaning) → length (with_line line target m).lines ≡ steps_of target + length m.lines
with_line_length line None m = omega arith
with_line_length line (Some target) m = omega arith

module _ (catalog : List CatalogEntry) where
  -- a line in front of lines that mean the same after other steps
  line_before : (count less n : ℕ) (names : List (List ℕ)) (bytes : List ℕ) (lines : List (List ℕ))
      → ((c k : ℕ) (o : List (List ℕ)) → (lines_meaning catalog k (n + 1) o lines).fault ≡ None → c + length (lines_meaning catalog k (n + 1) o lines).lines ≤ 200000 → lines_meaning catalog c (n + 1) o lines ≡ lines_meaning catalog k (n + 1) o lines)
      → (r : Result LineMeaning ScriptFault) → line_meaning catalog less n bytes names ≡ r → (lines_meaning catalog less n names (bytes ∷ lines)).fault ≡ None → count + length (lines_meaning catalog less n names (bytes ∷ lines)).lines ≤ 200000
      → lines_meaning catalog count n names (bytes ∷ lines) ≡ lines_meaning catalog less n names (bytes ∷ lines)
  line_before count less n names bytes lines behind (Err fault) e sound room = absurd (never_some (sym sound ∙ ap (λ r. (led_by n less names r (λ c o. lines_meaning catalog c (n + 1) o lines)).fault) e))
  line_before count less n names bytes lines behind (Ok m) e sound room =
      let after = lines_meaning catalog (less + steps_of m.target) (n + 1) m.names lines in
      let here : lines_meaning catalog less n names (bytes ∷ lines) ≡ with_line n m.target after = ap (λ r. led_by n less names r (λ c o. lines_meaning catalog c (n + 1) o lines)) e in
      let whole : after.fault ≡ None = sym (with_line_fault n m.target after) ∙ ap (λ (x : ScriptMeaning). x.fault) (sym here) ∙ sound in
      let long = ap (λ (x : ScriptMeaning). length x.lines) here ∙ with_line_length n m.target after in
      let there = line_later catalog count less n names m bytes e (omega (arith, long, room)) in
      let same = behind (count + steps_of m.target) (less + steps_of m.target) m.names whole (omega (arith, long, room)) in
      ap (λ r. led_by n count names r (λ c o. lines_meaning catalog c (n + 1) o lines)) there ∙ ap (with_line n m.target) same ∙ sym here

  -- lines without a fault mean the same after other steps, if there is room for theirs
  lines_later : (count less n : ℕ) (names : List (List ℕ)) (lines : List (List ℕ)) → (lines_meaning catalog less n names lines).fault ≡ None → count + length (lines_meaning catalog less n names lines).lines ≤ 200000
      → lines_meaning catalog count n names lines ≡ lines_meaning catalog less n names lines
  lines_later count less n names [] sound room = refl
  lines_later count less n names (bytes ∷ lines) sound room =
      line_before count less n names bytes lines (λ c k o. lines_later c k (n + 1) o lines) (line_meaning catalog less n bytes names) refl sound room

  pub script_later : (count less : ℕ) (bytes : List ℕ) (names : List (List ℕ)) → (script_meaning catalog less bytes names).fault ≡ None → count + length (script_meaning catalog less bytes names).lines ≤ 200000 → script_meaning catalog count bytes names ≡ script_meaning catalog less bytes names
  unfolding script_meaning
  script_later count less bytes names sound room = lines_later count less 1 names _ sound room

-- a script that is sound after some steps is so after others, if there is room for its own
pub sound_later : (specs : List Specification) (count less : ℕ) (bytes : List ℕ) (script : List ScriptLine) (objects : List (List ℕ)) → IsScript specs less [] bytes script objects → count + length script ≤ 200000 → IsScript specs count [] bytes script objects
sound_later specs count less bytes script objects h room =
    let same = script_later (catalog_of specs) count less bytes [] h.sound (omega (arith, room, ap (λ v. length v) h.lines)) in
    record {
      small = h.small;
      sound = ap (λ (m : ScriptMeaning). m.fault) same ∙ h.sound;
      lines = h.lines ∙ ap (λ (m : ScriptMeaning). m.lines) (sym same);
      named = h.named ∙ ap (λ (m : ScriptMeaning). m.names) (sym same);
    }
