-- The verdict on a text, from what was written under its guidance.
use Rattle.std.proofs.Common.{◌≡◌, ◌≢◌, ℕ, ◌+◌, List, []}
use Rattle.std.specs.Prelude.{Option, Some, None, slice_get}
use Rattle.jm_model.specs.Words.{Text}
use Rattle.jm_model.specs.Meanings.{Meaning}
use Rattle.jm_print.specs.Lexicons.{Lexicon}
use Rattle.jm_script.specs.declared.script.ScriptLine.{ScriptLine}
use Rattle.jm_audit.specs.Allowed.{IsAllowed}
use Rattle.jm_audit.specs.Fronts.{agreeing}
use Rattle.jm_audit.specs.Guides.{Guided}
use Rattle.jm_audit.specs.Places.{before, Goes, Ends, IsWritten}
use Rattle.jm_audit.specs.Verdicts.{IsVerdict}
use Rattle.jm_audit.specs.declared.verdict.Verdict.TheVariants.{Yes, No}
use Rattle.jm_audit.proofs.PlaceLemmas.{determined, written_whole, says_allowed, allowed_says}
use Rattle.jm_audit.proofs.VerdictLemmas.{verdict_yes, verdict_no}

module _ {X : Type 0} (mean : X → Meaning) (words : X → Lexicon) (scripts : List (List ScriptLine)) (xs : List X) (text : Text) where
  -- nothing is written yet
  pub unwritten : IsWritten mean words scripts xs text [] (Some text) (before 0)
  unwritten w on = on

  module _ (written : Text) (rest : Option Text) (n : ℕ) (none : slice_get xs n ≡ None) (so : IsWritten mean words scripts xs text written rest (before n)) where
    guided : Guided (Goes mean words scripts xs) (Ends mean words scripts xs) (before 0) text written
    guided = written_whole mean words scripts xs text written rest n so none

    pub verdict_same : text ≡ written → IsVerdict (IsAllowed mean words scripts xs) text Yes
    verdict_same same =
        verdict_yes (Goes mean words scripts xs) (Ends mean words scripts xs) (determined mean words scripts xs) (IsAllowed mean words scripts xs) (before 0) (says_allowed mean words scripts xs)
        (allowed_says mean words scripts xs) text written guided same

    pub verdict_other : (line : ℕ) → text ≢ written → line ≡ agreeing written text + 1 → IsVerdict (IsAllowed mean words scripts xs) text (No line)
    verdict_other line other is =
        verdict_no (Goes mean words scripts xs) (Ends mean words scripts xs) (determined mean words scripts xs) (IsAllowed mean words scripts xs) (before 0) (says_allowed mean words scripts xs)
        (allowed_says mean words scripts xs) text written guided line other is
