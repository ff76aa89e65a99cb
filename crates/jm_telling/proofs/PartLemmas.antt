-- The parts of a recording, each by itself.
use Rattle.std.proofs.Common.{◌≡◌, ℕ, ◌+◌, ◌≤◌, List, [], ◌∷◌, length, None, Result, Ok, Err, refl, sym, ap, subst, ◌∙◌, arith}
use Rattle.std.specs.List.{AllZip}
use Rattle.jm_model.specs.declared.fault.ScriptFault.{ScriptFault}
use Rattle.jm_script.specs.Catalogs.{CatalogEntry}
use Rattle.jm_script.specs.Meanings.{LineMeaning, ScriptMeaning, line_meaning, with_line, steps_of, led_by, lines_meaning, script_meaning}
use Rattle.jm_script.proofs.MeaningLemmas.{line_keeps}
use Rattle.jm_sweep.specs.Recordings.{parts_of}
use Rattle.jm_inputs.specs.Specifications.{Specification}
use Rattle.jm_inputs.specs.Scripts.{catalog_of, IsScript}
use Rattle.jm_inputs.specs.Recordings.{RecordedPart, SayParts, IsRecording}
use Rattle.jm_inputs.proofs.OneReadingLemmas.{never_some}
use Rattle.jm_inputs.proofs.RecordingLemmas.{with_line_fault, with_line_length, sound_later}
use Rattle.jm_telling.specs.Parts.{IsPartAlone}

module _ (catalog : List CatalogEntry) where
  -- a line in front of lines that keep within the limit of steps
  few_before : (count n : ℕ) (names : List (List ℕ)) (bytes : List ℕ) (lines : List (List ℕ)) → length names ≤ 65536 → count ≤ 200000
      → ((c : ℕ) (o : List (List ℕ)) → length o ≤ 65536 → c ≤ 200000 → (lines_meaning catalog c (n + 1) o lines).fault ≡ None → c + length (lines_meaning catalog c (n + 1) o lines).lines ≤ 200000)
      → (r : Result LineMeaning ScriptFault) → line_meaning catalog count n bytes names ≡ r → (lines_meaning catalog count n names (bytes ∷ lines)).fault ≡ None → count + length (lines_meaning catalog count n names (bytes ∷ lines)).lines ≤ 200000
  few_before count n names bytes lines few room behind (Err fault) e sound = absurd (never_some (sym sound ∙ ap (λ r. (led_by n count names r (λ c o. lines_meaning catalog c (n + 1) o lines)).fault) e))
  few_before count n names bytes lines few room behind (Ok m) e sound =
      let kept = line_keeps catalog count n bytes names m few room e in
      let after = lines_meaning catalog (count + steps_of m.target) (n + 1) m.names lines in
      let here : lines_meaning catalog count n names (bytes ∷ lines) ≡ with_line n m.target after = ap (λ r. led_by n count names r (λ c o. lines_meaning catalog c (n + 1) o lines)) e in
      let whole : after.fault ≡ None = sym (with_line_fault n m.target after) ∙ ap (λ (x : ScriptMeaning). x.fault) (sym here) ∙ sound in
      let long = ap (λ (x : ScriptMeaning). length x.lines) here ∙ with_line_length n m.target after in
      omega (arith, long, behind (count + steps_of m.target) m.names kept.few kept.room whole)

  -- lines without a fault keep within the limit of steps
  few_steps : (count n : ℕ) (names lines : List (List ℕ)) → length names ≤ 65536 → count ≤ 200000 → (lines_meaning catalog count n names lines).fault ≡ None → count + length (lines_meaning catalog count n names lines).lines ≤ 200000
  few_steps count n names [] few room sound = omega (arith, room)
  few_steps count n names (bytes ∷ lines) few room sound =
      few_before count n names bytes lines few room (λ c o. few_steps c (n + 1) o lines) (line_meaning catalog count n bytes names) refl sound

  few_in_script : (count : ℕ) (bytes : List ℕ) → count ≤ 200000 → (script_meaning catalog count bytes []).fault ≡ None → count + length (script_meaning catalog count bytes []).lines ≤ 200000
  unfolding script_meaning
  few_in_script count bytes room sound = few_steps count 1 [] _ (omega arith) room sound

few_in_part : (specs : List Specification) (count : ℕ) (bytes : List ℕ) (part : RecordedPart) → count ≤ 200000 → IsScript specs count [] bytes part.script part.objects → count + length part.script ≤ 200000
few_in_part specs count bytes part room is = omega (arith, ap (λ v. length v) is.lines, few_in_script (catalog_of specs) count bytes room is.sound)

parts_alone : (specs : List Specification) (count : ℕ) (texts : List (List ℕ)) (parts : List RecordedPart) → count ≤ 200000 → SayParts specs count texts parts → AllZip (IsPartAlone specs) texts parts
parts_alone specs count [] parts room none = subst (AllZip (IsPartAlone specs) []) (sym none) tt
parts_alone specs count (text ∷ texts) parts room (part, more, e, said, rest) =
    let few = few_in_part specs count text part room said in
    subst (AllZip (IsPartAlone specs) (text ∷ texts)) (sym e)
    (sound_later specs 0 count text part.script part.objects said (omega (arith, few)), parts_alone specs (count + length part.script) texts more few rest)

pub recording_alone : (specs : List Specification) (bytes : List ℕ) (parts : List RecordedPart) → IsRecording specs bytes parts → AllZip (IsPartAlone specs) (parts_of bytes) parts
recording_alone specs bytes parts told = parts_alone specs 0 (parts_of bytes) parts (omega arith) told.said
