-- Sheets, and what their scripts have to fit.
use Rattle.std.specs.Prelude.{ℕ, ◌≡◌, ◌≤◌, List, All, Some, length, slice_get}
use Rattle.jm_model.specs.Words.{Text}
use Rattle.jm_model.specs.Meanings.{Meaning}
use Rattle.jm_model.specs.declared.step.Step.{Step}
use Rattle.jm_semantics.specs.Legality.{IsStepOf}
use Rattle.jm_print.specs.Lexicons.{Lexicon, lexicon_of}
use Rattle.jm_print.specs.Names.{IsNamedStep}
use Rattle.jm_script.specs.declared.script.ScriptLine.{ScriptLine}
use Rattle.jm_audit.specs.Allowed.{steps_on}
use Rattle.jm_audit.specs.declared.sheet.Sheet.{Sheet}

-- the names that a history of the sheet is printed with, and what its handlers print
abbrev pub lexicon : {M S D : Type 0} → List Text → Sheet M S D → Lexicon
lexicon objects sheet =
    lexicon_of sheet.name.now sheet.table.now sheet.categories.now objects sheet.handlers.now

-- a step of the specification, whose event, parameters and objects have names
abbrev pub IsFit : Meaning → Lexicon → Step → Type 0
IsFit m l step = IsStepOf m step × IsNamedStep l step

-- each handler has a name, and each step of the lists fits
pub record AreFit (m : Meaning) (l : Lexicon) (lists : List (List (ℕ × Step))) : Type 0 where
  pub handlers : m.handlers ≤ length l.handlers
  pub steps : (k : ℕ) (own : List (ℕ × Step)) → slice_get lists k ≡ Some own → All (λ s. IsFit m l s.1) own

-- each sheet has names for its handlers, and for the steps of the scripts on it, which are its own
abbrev pub FitSheets : {X : Type 0} → (X → Meaning) → (X → Lexicon) → List (List ScriptLine) → List X → Type 0
FitSheets {X} mean words scripts sheets =
    (n : ℕ) (x : X) → slice_get sheets n ≡ Some x → AreFit (mean x) (words x) (steps_on scripts n)
