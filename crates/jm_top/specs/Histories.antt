-- The histories of a command's specifications, and their text.
use Rattle.std.specs.Prelude.{ℕ, ◌+◌, ◌≡◌, List, [], ◌∷◌, ◌++◌, map, All}
use Rattle.jm_model.specs.Words.{Text}
use Rattle.jm_model.specs.declared.step.Entry.{Entry}
use Rattle.jm_semantics.specs.Scripts.{projection_of, IsInterleaving}
use Rattle.jm_semantics.specs.Legality.{IsLegal}
use Rattle.jm_machine.specs.HandlerNames.{names_of}
use Rattle.jm_print.specs.Lexicons.{Lexicon, lexicon_of}
use Rattle.jm_print.specs.Told.{texts_of}
use Rattle.jm_print.specs.Summaries.{summary_text}
use Rattle.jm_script.specs.declared.script.ScriptLine.{ScriptLine}
use Rattle.jm_script.specs.Projections.{script_of}
use Rattle.jm_sync.specs.declared.line.SyncLine.{SyncLine}
use Rattle.jm_runner.specs.Orders.{IsOrdered}
use Rattle.jm_inputs.specs.Specifications.{Specification, meaning_of}
use Rattle.jm_inputs.specs.Recordings.{RecordedPart}

-- the history is legal for what the specification of this number means, and an interleaving of the scripts' projections
-- on it
pub record IsHistoryOf (number : ℕ) (s : Specification) (scripts : List (List ScriptLine))
    (h : List Entry) : Type 0 where
  pub legal : IsLegal (meaning_of s) h
  pub woven : IsInterleaving h (map (λ script. projection_of (script_of script) number) scripts)

-- such a history of each specification, in order, of which the first has this number
abbrev pub AreHistoriesFrom : ℕ → List Specification → List (List ScriptLine) → List (List Entry) → Type 0
AreHistoriesFrom number [] scripts [] = Unit {0}
AreHistoriesFrom number (s ∷ specs) scripts (h ∷ hs) =
    IsHistoryOf number s scripts h × AreHistoriesFrom (number + 1) specs scripts hs
AreHistoriesFrom number _ scripts _ = ⊥

-- the names that a history of the specification is printed with, and what its handlers print
abbrev pub lexicon : List Text → Specification → Lexicon
lexicon objects s = lexicon_of s.name s.table (names_of s.rules) objects s.texts

-- the text is the printed history of each specification, in order
pub record IsTextOfHistories (specs : List Specification) (scripts : List (List ScriptLine)) (objects : List Text)
    (text : Text) : Type 0 where
  pub histories : List (List Entry)
  pub each : AreHistoriesFrom 0 specs scripts histories
  pub printed : text ≡ texts_of (map (lexicon objects) specs) histories

-- and each history has its entries in the order that the scripts ask for
pub record IsTextOfOrdered (specs : List Specification) (scripts : List (List ScriptLine))
    (asked : List (List SyncLine)) (objects : List Text) (text : Text) : Type 0 where
  pub histories : List (List Entry)
  pub each : AreHistoriesFrom 0 specs scripts histories
  pub ordered : All (λ h. IsOrdered h asked) histories
  pub printed : text ≡ texts_of (map (lexicon objects) specs) histories

-- the summaries of these histories, one after another
abbrev pub summaries_of : List Specification → List (List Entry) → Text
summaries_of (s ∷ specs) (h ∷ hs) = summary_text s.name h ++ summaries_of specs hs
summaries_of _ _ = []

-- the text is the summary of a history of each specification, in order
pub record IsTextOfSummaries (specs : List Specification) (scripts : List (List ScriptLine))
    (text : Text) : Type 0 where
  pub histories : List (List Entry)
  pub each : AreHistoriesFrom 0 specs scripts histories
  pub printed : text ≡ summaries_of specs histories

module _ (specs : List Specification) where
  -- the text is that of a replay of each part, in order
  abbrev pub IsTextOfParts : List RecordedPart → Text → Type 0
  IsTextOfParts [] text = text ≡ []
  IsTextOfParts (part ∷ parts) text =
      (first : Text) × (more : Text) × (text ≡ first ++ more)
      × IsTextOfHistories specs (part.script ∷ []) part.objects first × IsTextOfParts parts more
