-- Runs by their brackets, without the readers' scans.
use Rattle.std.specs.Prelude.{◌≡◌, Bool, true, false, List, [], ◌∷◌, Option, Some, option_and_then}
use Rattle.jm_model.specs.Words.{Text}
use Rattle.jm_text.specs.declared.token.Token.{Token}
use Rattle.jm_spec.specs.declared.brackets.Bracket.{Bracket}
use Rattle.jm_spec.specs.declared.brackets.Sign.{Sign}
use Rattle.jm_spec.specs.Brackets.{sign_of, without_angles, after_sign}
use Rattle.jm_spec.specs.Runs.{may_end}

-- what a token of a member means
abbrev pub member_sign : Text → Token → Sign
member_sign bytes t = without_angles (sign_of bytes t)

-- the brackets that are open after a run, if they match
abbrev pub open_after : Text → List Bracket → List Token → Option (List Bracket)
open_after bytes stack [] = Some stack
open_after bytes stack (t ∷ ts) =
    option_and_then (λ inner. open_after bytes inner ts) (after_sign stack (member_sign bytes t))

-- the last token is a `;` or a `}`
abbrev pub may_end_after : Text → List Token → Bool
may_end_after bytes [] = false
may_end_after bytes (t ∷ []) = may_end (member_sign bytes t)
may_end_after bytes (t ∷ u ∷ ts) = may_end_after bytes (u ∷ ts)

-- inside these brackets a run closes all of them, and ends with a `;` or a `}`
pub record EndsFrom (bytes : Text) (stack : List Bracket) (run : List Token) : Type 0 where
  pub closed : open_after bytes stack run ≡ Some []
  pub ended : may_end_after bytes run ≡ true

-- a run is balanced, and its last token is a `;` outside brackets or closes a block outside brackets
abbrev pub EndsMember : Text → List Token → Type 0
EndsMember bytes run = EndsFrom bytes [] run
