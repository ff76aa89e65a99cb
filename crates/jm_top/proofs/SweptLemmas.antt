-- Parts of a recording that were replayed, one after the other.
use Rattle.std.proofs.Common.{◌≡◌, ℕ, ◌+◌, ◌≤◌, List, [], ◌∷◌, ◌++◌, length, refl, sym, ap, subst, ◌∙◌, arith, append_assoc, append-nil}
use Rattle.jm_model.specs.declared.fault.ScriptFault.{ScriptFault}
use Rattle.jm_sweep.specs.Recordings.{parts_of}
use Rattle.jm_inputs.specs.Specifications.{Specification, most_bytes}
use Rattle.jm_inputs.specs.Scripts.{IsScript, IsScriptFault}
use Rattle.jm_inputs.specs.Recordings.{RecordedPart, steps_of_parts, IsRecordingFault, in_part}
use Rattle.jm_inputs.proofs.RecordingLemmas.{parts_more, steps_more}
use Rattle.jm_top.specs.Histories.{IsTextOfHistories, IsTextOfParts}
use Rattle.jm_top.specs.Sweeps.{HasPart, IsSweptSoFar}

module _ (specs : List Specification) where
  text_more : (parts : List RecordedPart) (part : RecordedPart) (text piece : List ℕ) → IsTextOfParts specs parts text → IsTextOfHistories specs (part.script ∷ []) part.objects piece → IsTextOfParts specs (parts ++ part ∷ []) (text ++ piece)
  text_more [] part text piece none is = (piece, [], ap (λ v. v ++ piece) none ∙ sym (append-nil piece), is, refl)
  text_more (p ∷ parts) part text piece (first, more, e, h, rest) is = (first, more ++ piece, ap (λ v. v ++ piece) e ∙ append_assoc first more piece, h, text_more parts part more piece rest is)

  pub swept_none : IsSweptSoFar specs [] 0 []
  swept_none = record { parts = []; said = refl; counted = refl; few = omega arith; is_text = refl }

  pub swept_more : (texts : List (List ℕ)) (count : ℕ) (old text new : List ℕ) (count_then : ℕ) → IsSweptSoFar specs texts count old → HasPart specs count text old new count_then → IsSweptSoFar specs (texts ++ text ∷ []) count_then new
  swept_more texts count old text new count_then before h =
      let counts : count ≡ 0 + steps_of_parts before.parts = before.counted ∙ omega arith in
      record {
        parts = before.parts ++ h.part ∷ [];
        said = parts_more specs 0 texts before.parts text h.part before.said (subst (λ n. IsScript specs n [] text h.part.script h.part.objects) counts h.said);
        counted = h.counted ∙ ap (λ n. n + length h.part.script) before.counted ∙ sym (steps_more specs before.parts h.part);
        few = h.few;
        is_text = subst (λ v. IsTextOfParts specs (before.parts ++ h.part ∷ []) v) (sym h.added) (text_more before.parts h.part old h.text before.is_text h.is_text);
      }

  -- the part after those that were swept has a fault
  pub swept_fault : (bytes : List ℕ) (texts rest : List (List ℕ)) (text : List ℕ) (count : ℕ) (old : List ℕ) (number : ℕ) (fault : ScriptFault) → length bytes ≤ most_bytes → parts_of bytes ≡ texts ++ text ∷ rest → number ≡ length texts
      → IsSweptSoFar specs texts count old → IsScriptFault specs count [] text fault → IsRecordingFault specs bytes number fault
  swept_fault bytes texts rest text count old number fault small split numbered before is =
      in_part number texts rest text before.parts fault small split numbered before.said (subst (λ n. IsScriptFault specs n [] text fault) before.counted is)
