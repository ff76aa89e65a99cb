-- What the tokens of a handler's block say.
use Rattle.std.specs.Prelude.{◌≡◌, ◌⊎◌, List, [], ◌∷◌}
use Rattle.jm_model.specs.Words.{Text}
use Rattle.jm_text.specs.declared.token.Token.{Token}
use Rattle.jm_handler.specs.declared.term.Term.{Term}
use Rattle.jm_handler.specs.Statements.{AreStatements}
use Rattle.jm_handler.specs.Terms.{Prints, PrintsNone}

-- what these statements print, in order; one that prints no terms has no effect
abbrev pub ArePrinted : Text → List Text → List (List Token) → List (List Term) → Type 0
ArePrinted bytes parameters [] printed = printed ≡ []
ArePrinted bytes parameters (run ∷ runs) printed =
    ((terms : List Term) × (more : List (List Term)) × (printed ≡ terms ∷ more) × Prints bytes parameters run terms
    × ArePrinted bytes parameters runs more)
    ⊎ (PrintsNone bytes parameters run × ArePrinted bytes parameters runs printed)

-- the tokens of a block say that these terms are printed, a list of them for each statement that prints
pub record Says (bytes : Text) (parameters : List Text) (tokens : List Token) (printed : List (List Term))
    : Type 0 where
  pub runs : List (List Token)
  pub statements : AreStatements bytes tokens runs
  pub printed_by : ArePrinted bytes parameters runs printed
