-- Where tokens lie in the bytes.
use Rattle.std.specs.Prelude.{ℕ, ◌≤◌, ◌<◌, List, [], ◌∷◌, length, All, slice_range}
use Rattle.jm_model.specs.Words.{Text}
use Rattle.jm_text.specs.declared.token.Token.{Token}

-- the token lies in the bytes
pub record LiesWithin (bytes : Text) (token : Token) : Type 0 where
  pub ordered : token.start ≤ token.end
  pub inside : token.end ≤ length bytes

-- each token lies in the bytes
abbrev pub LieWithin : Text → List Token → Type 0
LieWithin bytes tokens = All (LiesWithin bytes) tokens

-- between two places the tokens lie one after the other, each of at least one byte
abbrev pub LieInOrder : ℕ → List Token → ℕ → Type 0
LieInOrder from [] to = from ≤ to
LieInOrder from (token ∷ tokens) to = (from ≤ token.start) × (token.start < token.end) × LieInOrder token.end tokens to

-- the bytes of a token
abbrev pub text_of : Text → Token → Text
text_of bytes token = slice_range bytes token.start token.end
