-- What the calls that replay a script answer.
use Rattle.std.specs.Prelude.{ℕ, ◌≡◌, List, [], ◌∷◌}
use Rattle.jm_model.specs.Words.{Text}
use Rattle.jm_model.specs.Meanings.{Meaning}
use Rattle.jm_model.specs.declared.step.Step.{Step}
use Rattle.jm_model.specs.declared.step.Entry.{Entry}
use Rattle.jm_semantics.specs.Scripts.{IsInterleaving}
use Rattle.jm_semantics.specs.Legality.{IsLegal}
use Rattle.jm_print.specs.Lexicons.{Lexicon}
use Rattle.jm_print.specs.Texts.{history_text}

-- the history is legal for what is meant, and an interleaving of these steps, which are those of the one caller
pub record IsReplayOf (m : Meaning) (steps : List (ℕ × Step)) (h : List Entry) : Type 0 where
  pub legal : IsLegal m h
  pub woven : IsInterleaving h (steps ∷ [])

-- the text is the whole printed history of such a replay
pub record IsPrintedReplay (m : Meaning) (steps : List (ℕ × Step)) (l : Lexicon) (text : Text) : Type 0 where
  pub history : List Entry
  pub replayed : IsReplayOf m steps history
  pub printed : text ≡ history_text l history
