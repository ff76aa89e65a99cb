-- The texts that a run may print.
use Rattle.std.specs.Prelude.{ℕ, ◌+◌, ◌≡◌, List, [], ◌∷◌, map}
use Rattle.jm_model.specs.Words.{Text}
use Rattle.jm_model.specs.Meanings.{Meaning}
use Rattle.jm_model.specs.declared.step.Entry.{Entry}
use Rattle.jm_model.specs.declared.step.Step.{Step}
use Rattle.jm_semantics.specs.Scripts.{projection_of, IsInterleaving}
use Rattle.jm_semantics.specs.Legality.{IsLegal}
use Rattle.jm_print.specs.Lexicons.{Lexicon}
use Rattle.jm_print.specs.Told.{texts_of}
use Rattle.jm_script.specs.declared.script.ScriptLine.{ScriptLine}
use Rattle.jm_script.specs.Projections.{script_of}

-- the steps of each script that are for the specification of this number
abbrev pub steps_on : List (List ScriptLine) → ℕ → List (List (ℕ × Step))
steps_on scripts number = map (λ script. projection_of (script_of script) number) scripts

-- Specifications, of which only the meaning and the names matter, and scripts.
module _ {X : Type 0} (mean : X → Meaning) (words : X → Lexicon) (scripts : List (List ScriptLine)) where
  -- the history is legal for what the specification of this number means, and an interleaving of the scripts' steps on
  -- it
  pub record IsHistoryOf (number : ℕ) (x : X) (h : List Entry) : Type 0 where
    pub legal : IsLegal (mean x) h
    pub woven : IsInterleaving h (steps_on scripts number)

  -- such a history of each specification, in order, of which the first has this number
  abbrev pub AreHistoriesFrom : ℕ → List X → List (List Entry) → Type 0
  AreHistoriesFrom number [] [] = Unit {0}
  AreHistoriesFrom number (x ∷ xs) (h ∷ hs) = IsHistoryOf number x h × AreHistoriesFrom (number + 1) xs hs
  AreHistoriesFrom number _ _ = ⊥

  -- the text is the printed history of each specification, in order
  pub record IsAllowed (xs : List X) (text : Text) : Type 0 where
    pub histories : List (List Entry)
    pub each : AreHistoriesFrom 0 xs histories
    pub printed : text ≡ texts_of (map words xs) histories
