-- The tokens of a specification: its bytes are cut into pieces from the front on, and the pieces that are white space
-- or comments are dropped.
use Rattle.std.specs.Prelude.{ℕ, zero, suc, ◌≡◌, ◌+◌, ◌-◌, ◌<◌, ◌≤◌, ◌==◌, List, [], ◌∷◌, Result, Ok, Err, if◌then◌else◌, IsUtf8}
use Rattle.jm_model.specs.Words.{Text}
use Rattle.jm_model.specs.declared.fault.SpecError.{SpecError}
use Rattle.jm_model.specs.declared.fault.SpecError.TheVariants.{Bad, NoMemory}
use Rattle.jm_model.specs.declared.fault.SpecFault.TheVariants.{NotUtf8, OpenText}
use Rattle.jm_text.specs.declared.token.Token.{Token}
use Rattle.jm_text.specs.declared.piece.Piece.{Piece}
use Rattle.jm_text.specs.declared.piece.Piece.TheVariants.{Gap, Cut, Open}
use Rattle.jm_text.specs.Pieces.{line_feed, piece_of}

-- how many bytes a piece takes
abbrev pub piece_length : Piece → ℕ
piece_length (Gap n) = n
piece_length (Cut kind n) = n
piece_length Open = 1

-- a piece takes at least one byte, and at most so many
abbrev pub FitsIn : ℕ → Piece → Type 0
FitsIn limit (Gap n) = (0 < n) × (n ≤ limit)
FitsIn limit (Cut kind n) = (0 < n) × (n ≤ limit)
FitsIn limit Open = 0 < limit

-- the line after a byte
abbrev pub line_after : ℕ → ℕ → ℕ
line_after b line = if b == line_feed then line + 1 else line

-- A piece that begins at this place of the file and on this line, and the tokens after it. The line of a text or a
-- comment that isn't closed stands in their place.
abbrev pub led_by : Piece → ℕ → ℕ → Result (List Token) ℕ → Result (List Token) ℕ
led_by (Gap n) start line tokens = tokens
led_by (Cut kind n) start line (Ok tokens) =
    Ok (record { kind = kind; start = start; end = start + n; line = line } ∷ tokens)
led_by (Cut kind n) start line (Err opening) = Err opening
led_by Open start line tokens = Err line

-- the tokens of the bytes after the first few, which belong to the piece before; the first byte stands at this place
-- and on this line
abbrev pub tokens_behind : ℕ → Text → ℕ → ℕ → Result (List Token) ℕ
tokens_behind taken [] start line = Ok []
tokens_behind (suc taken) (b ∷ bs) start line = tokens_behind taken bs (start + 1) (line_after b line)
tokens_behind zero (b ∷ bs) start line =
    led_by (piece_of (b ∷ bs)) start line
    (tokens_behind (piece_length (piece_of (b ∷ bs)) - 1) bs (start + 1) (line_after b line))

-- the tokens of a whole file, or the line of the first text or comment that isn't closed; lines are counted from 1
unfoldable pub token_list : Text → Result (List Token) ℕ
token_list bytes = tokens_behind 0 bytes 0 1

-- the bytes are UTF-8, and these are their tokens
pub record AreTokensOf (bytes : Text) (tokens : List Token) : Type 0 where
  pub utf8 : IsUtf8 bytes
  pub cut : token_list bytes ≡ Ok tokens

-- the bytes are UTF-8, and the first text or comment that isn't closed opens on this line
pub record IsOpenOn (bytes : Text) (line : ℕ) : Type 0 where
  pub utf8 : IsUtf8 bytes
  pub cut : token_list bytes ≡ Err line

-- why the bytes have no tokens, unless memory is short
abbrev pub IsFaultOf : Text → SpecError → Type 0
IsFaultOf bytes NoMemory = Unit {0}
IsFaultOf bytes (Bad NotUtf8) = ¬ (IsUtf8 bytes)
IsFaultOf bytes (Bad (OpenText line)) = IsOpenOn bytes line
IsFaultOf bytes (Bad _) = ⊥
