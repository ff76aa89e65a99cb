-- Reading from the front of a list of tokens: a rule gives what it reads and the tokens after it, or nothing.
use Rattle.std.specs.Prelude.{ℕ, zero, suc, ◌-◌, Bool, true, false, List, [], ◌∷◌, length, Option, Some, None, option_and_then, slice_get, if◌then◌else◌}
use Rattle.std.specs.Option.{option_map_or}
use Rattle.jm_model.specs.Words.{Text}
use Rattle.jm_text.specs.declared.token.Token.{Token}
use Rattle.jm_text.specs.Texts.{is_name, is_word, is_mark}

infixl 10 ◌>>=◌
abbrev pub ◌>>=◌ : {A B : Type 0} → Option A → (A → Option B) → Option B
o >>= f = option_and_then f o

module _ (bytes : Text) where
  -- the token that many tokens ahead is this mark, this word, or a name
  abbrev pub is_mark_at : List Token → ℕ → Text → Bool
  is_mark_at tokens k mark = option_map_or (λ t. is_mark bytes t mark) (slice_get tokens k) false

  abbrev pub is_word_at : List Token → ℕ → Text → Bool
  is_word_at tokens k word = option_map_or (λ t. is_word bytes t word) (slice_get tokens k) false

  abbrev pub is_name_at : List Token → ℕ → Bool
  is_name_at tokens k = option_map_or (λ t. is_name bytes t) (slice_get tokens k) false

  -- a token is left
  abbrev pub is_left : List Token → Bool
  is_left [] = false
  is_left (t ∷ ts) = true

  -- a mark
  unfoldable pub mark_at : Text → List Token → Option (List Token)
  mark_at mark [] = None
  mark_at mark (t ∷ ts) = if is_mark bytes t mark then Some ts else None

  -- a name
  unfoldable pub name_at : List Token → Option (Token × List Token)
  name_at [] = None
  name_at (t ∷ ts) = if is_name bytes t then Some (t, ts) else None

  -- a word
  unfoldable pub word_at : Text → List Token → Option (Token × List Token)
  word_at word [] = None
  word_at word (t ∷ ts) = if is_word bytes t word then Some (t, ts) else None

-- the next token, if it is wanted
abbrev pub accepted : Bool → List Token → Option (Token × List Token)
accepted is_wanted [] = None
accepted is_wanted (t ∷ ts) = if is_wanted then Some (t, ts) else None

-- the line of the next token, or the last line at the end
abbrev pub line_of : ℕ → List Token → ℕ
line_of last_line [] = last_line
line_of last_line (t ∷ ts) = t.line

-- the line of the last token, or this one where there is none
abbrev pub last_line_of : ℕ → List Token → ℕ
last_line_of line tokens = option_map_or (λ t. t.line) (slice_get tokens (length tokens - 1)) line

-- The items of a rule one after the other, as long as the tokens go on so: each adds to what was read before, at first
-- these. There are at most so many.
module _ {X : Type 0} (goes_on : List Token → Bool) (item : X → List Token → Option (X × List Token)) where
  abbrev pub at_most : ℕ → X → List Token → Option (X × List Token)
  at_most zero xs tokens = if goes_on tokens then None else Some (xs, tokens)
  at_most (suc n) xs tokens = if goes_on tokens then (item xs tokens >>= λ x. at_most n x.0 x.1) else Some (xs, tokens)
