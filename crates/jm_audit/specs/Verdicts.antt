-- What an audit answers.
use Rattle.std.specs.Prelude.{ℕ, ◌+◌, ◌≡◌, ◌≤◌}
use Rattle.jm_model.specs.Words.{Text}
use Rattle.jm_audit.specs.declared.verdict.Verdict.{Verdict}
use Rattle.jm_audit.specs.declared.verdict.Verdict.TheVariants.{Yes, No}
use Rattle.jm_audit.specs.Fronts.{IsReached}

-- Yes exactly where the text is allowed; else the line after the greatest number of whole lines of the text with which
-- some allowed text begins
abbrev pub IsVerdict : (Text → Type 0) → Text → Verdict → Type 0
IsVerdict Allowed text Yes = Allowed text
IsVerdict Allowed text (No line) =
    (Allowed text → ⊥)
    × ((m : ℕ) × (line ≡ m + 1) × IsReached Allowed text m × ((n : ℕ) → IsReached Allowed text n → n ≤ m))
