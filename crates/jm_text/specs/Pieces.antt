-- What stands at the front of some bytes of a specification, and how many bytes it takes.
use Rattle.std.specs.Prelude.{ℕ, ◌+◌, Bool, false, not, ◌&&◌, ◌||◌, ◌==◌, nat_eq, nat_le, List, [], ◌∷◌, drop, slice_index, codes, Option, Some, None, if◌then◌else◌}
use Rattle.std.specs.List.{prefix_len, starts_with}
use Rattle.std.specs.Option.{option_map}
use Rattle.std.specs.Char.{is_ascii_alphanumeric}
use Rattle.jm_text.specs.declared.token.TokenKind.TheVariants.{Word, Text, Mark}
use Rattle.jm_text.specs.declared.piece.Piece.{Piece}
use Rattle.jm_text.specs.declared.piece.Piece.TheVariants.{Gap, Cut, Open}

abbrev pub line_feed : ℕ
line_feed = 10

abbrev pub backslash : ℕ
backslash = 92

-- space, tab, carriage return, line feed
abbrev pub is_white : ℕ → Bool
is_white b = b == 32 || b == 9 || b == 13 || b == line_feed

-- `"` and `'`
abbrev pub is_quote : ℕ → Bool
is_quote b = b == 34 || b == 39

-- an ASCII letter or digit, `_`, `$`, or a byte of a character past ASCII
abbrev pub is_word_byte : ℕ → Bool
is_word_byte b = is_ascii_alphanumeric b || b == 95 || b == 36 || nat_le 128 b

-- the number that is larger by k, if there is one
abbrev pub plus : ℕ → Option ℕ → Option ℕ
plus k n = option_map (λ m. m + k) n

-- the bytes before the next line feed, or all
abbrev pub line_length : List ℕ → ℕ
line_length bytes = prefix_len (λ b. not (b == line_feed)) bytes

-- after `/*`: the bytes up to and with the next `*/`
abbrev pub comment_rest : List ℕ → Option ℕ
comment_rest [] = None
comment_rest (b ∷ bs) = if starts_with nat_eq (b ∷ bs) (codes "*/") then Some 2 else plus 1 (comment_rest bs)

-- a backslash takes the character after it along, if that isn't a line feed (no byte of a character past ASCII is a
-- quote, so it is enough to pass over its first)
abbrev pub escapes : List ℕ → Bool
escapes (b ∷ c ∷ bs) = b == backslash && not (c == line_feed)
escapes _ = false

-- after a quote: the bytes up to and with the next same one on the line
abbrev pub text_rest : ℕ → List ℕ → Option ℕ
text_rest quote [] = None
text_rest quote (b ∷ []) = if b == quote then Some 1 else None
text_rest quote (b ∷ c ∷ bs) =
    if b == quote then Some 1
    else if b == line_feed then None
    else if escapes (b ∷ c ∷ bs) then plus 2 (text_rest quote bs)
    else plus 1 (text_rest quote (c ∷ bs))

-- the longest of the marks of several characters, else one character
abbrev pub mark_length : List ℕ → ℕ
mark_length bytes =
    if starts_with nat_eq bytes (codes "<=>") then 3
    else if starts_with nat_eq bytes (codes "[*]") then 3
    else if starts_with nat_eq bytes (codes "<*>") then 3
    else if starts_with nat_eq bytes (codes "(*)") then 3
    else if starts_with nat_eq bytes (codes "->") then 2
    else if starts_with nat_eq bytes (codes "=>") then 2
    else if starts_with nat_eq bytes (codes "&&") then 2
    else if starts_with nat_eq bytes (codes "||") then 2
    else 1

-- what begins here and takes so many bytes, if it is closed
abbrev pub closed : (ℕ → Piece) → Option ℕ → Piece
closed piece None = Open
closed piece (Some n) = piece n

-- what stands at the front
unfoldable pub piece_of : List ℕ → Piece
piece_of bytes =
    if is_white (slice_index bytes 0) then Gap 1
    else if starts_with nat_eq bytes (codes "//") then Gap (line_length bytes)
    else if starts_with nat_eq bytes (codes "/*") then closed Gap (plus 2 (comment_rest (drop 2 bytes)))
    else if is_quote (slice_index bytes 0)
    then closed (Cut Text) (plus 1 (text_rest (slice_index bytes 0) (drop 1 bytes)))
    else if is_word_byte (slice_index bytes 0) then Cut Word (prefix_len is_word_byte bytes)
    else Cut Mark (mark_length bytes)
