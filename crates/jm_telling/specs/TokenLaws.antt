-- What holds of the tokens of a file, told of its bytes: with what is dropped they tile them, a word goes as far as it
-- can, a mark is the longest that stands there, and a text ends at the first quote that may end it.
use Rattle.std.specs.Prelude.{ℕ, ◌+◌, ◌<◌, ◌≤◌, ◌≡◌, ◌==◌, ◌⊎◌, ◌&&◌, Bool, true, false, not, nat_eq, List, [], ◌∷◌, ◌++◌, length, count_by, codes, All, Contains}
use Rattle.std.specs.List.{list_all, starts_with}
use Rattle.jm_model.specs.Words.{Text}
use Rattle.jm_text.specs.declared.token.Token.{Token}
use Rattle.jm_text.specs.declared.token.TokenKind.TheVariants.{Word, Mark, Text as Quoted}
use Rattle.jm_text.specs.Pieces.{is_white, is_quote, is_word_byte, line_feed, backslash}
use Rattle.jm_text.specs.Tokens.{AreTokensOf, IsOpenOn}

-- ---- what is dropped

-- no `*/` stands in the text
abbrev pub HasNoEnd : Text → Type 0
HasNoEnd text = (before behind : Text) → text ≡ before ++ codes "*/" ++ behind → ⊥

-- the line ends here, and with the last one the file
abbrev pub EndsLine : Text → Type 0
EndsLine [] = Unit {0}
EndsLine (b ∷ bs) = b ≡ line_feed

-- with these bytes after it: a byte of white space, a comment up to the end of its line, or one up to the first `*/`
pub data IsDropped : Text → Text → Type 0 where
  white : (b : ℕ) (behind : Text) → is_white b ≡ true → IsDropped (b ∷ []) behind
  line_comment : (text behind : Text) → list_all (λ b. not (b == line_feed)) text ≡ true → EndsLine behind
      → IsDropped (codes "//" ++ text) behind
  comment : (text behind : Text) → HasNoEnd text → IsDropped (codes "/*" ++ text ++ codes "*/") behind

-- any number of these, one after the other
pub data AreDropped : Text → Text → Type 0 where
  nothing : (behind : Text) → AreDropped [] behind
  more : (first rest behind : Text) → IsDropped first (rest ++ behind) → AreDropped rest behind
      → AreDropped (first ++ rest) behind

-- From this place on the bytes are, in turn, what is dropped and the text of a token, which isn't empty; and last what
-- is dropped.
abbrev pub TileFrom : ℕ → Text → List Token → Type 0
TileFrom place bytes [] = AreDropped bytes []
TileFrom place bytes (token ∷ tokens) =
    (gap : Text) × (text : Text) × (rest : Text) × (bytes ≡ gap ++ text ++ rest) × AreDropped gap (text ++ rest)
    × (token.start ≡ place + length gap) × (token.end ≡ token.start + length text) × (0 < length text)
    × TileFrom token.end rest tokens

-- the tokens of a file, and what is dropped between them, tile its bytes from the first to the last
abbrev pub TokensTile : Type 0
TokensTile = (bytes : Text) (tokens : List Token) → AreTokensOf bytes tokens → TileFrom 0 bytes tokens

-- ---- where a token stands

-- the bytes before a token, its text, and the bytes after it
pub record IsBetween (bytes : Text) (token : Token) : Type 0 where
  pub before : Text
  pub text : Text
  pub behind : Text
  pub split : bytes ≡ before ++ text ++ behind
  pub start : token.start ≡ length before
  pub end : token.end ≡ length before + length text

-- ---- words

-- the first byte may stand in a word
abbrev pub begins_word : Text → Bool
begins_word [] = false
begins_word (b ∷ bs) = is_word_byte b

-- the last byte may stand in a word
abbrev pub ends_word : Text → Bool
ends_word [] = false
ends_word (b ∷ []) = is_word_byte b
ends_word (b ∷ c ∷ bs) = ends_word (c ∷ bs)

-- The token is a word that neither the byte before it nor the one after it continues.
pub record IsWholeWord (bytes : Text) (token : Token) : Type 0 where
  pub at : IsBetween bytes token
  pub made : list_all is_word_byte at.text ≡ true
  pub front : ends_word at.before ≡ false
  pub back : begins_word at.behind ≡ false

-- a word goes as far as it can, to both sides
abbrev pub WordsAreMaximal : Type 0
WordsAreMaximal = (bytes : Text) (tokens : List Token) → AreTokensOf bytes tokens
    → All (λ token. token.kind ≡ Word → IsWholeWord bytes token) tokens

-- ---- marks

-- the marks of several characters
abbrev pub long_marks : List Text
long_marks =
    codes "<=>" ∷ codes "[*]" ∷ codes "<*>" ∷ codes "(*)" ∷ codes "->" ∷ codes "=>" ∷ codes "&&" ∷ codes "||" ∷ []

-- the token is one of these or one byte, and none of these that stands there too is longer
pub record IsLongestMark (bytes : Text) (token : Token) : Type 0 where
  pub at : IsBetween bytes token
  pub mark : Contains long_marks at.text ⊎ (length at.text ≡ 1)
  pub longest : All (λ mark. starts_with nat_eq (at.text ++ at.behind) mark ≡ true → length mark ≤ length at.text)
      long_marks

-- a mark is the longest that stands there
abbrev pub MarksAreLongest : Type 0
MarksAreLongest = (bytes : Text) (tokens : List Token) → AreTokensOf bytes tokens
    → All (λ token. token.kind ≡ Mark → IsLongestMark bytes token) tokens

-- ---- texts

-- The byte after these is taken along by a backslash, which isn't taken along itself. The first of them may be taken
-- along by one before them.
abbrev pub takes_along : Bool → Text → Bool
takes_along taken [] = taken
takes_along taken (b ∷ bs) = takes_along (not taken && b == backslash) bs

-- no line feed stands in the text, and each such quote in it is taken along
pub record IsInside (quote : ℕ) (text : Text) : Type 0 where
  pub one_line : list_all (λ b. not (b == line_feed)) text ≡ true
  pub taken : (before behind : Text) → text ≡ before ++ quote ∷ behind → takes_along false before ≡ true

-- The token is a quote, an inside, and the same quote, which isn't taken along.
pub record IsQuoted (bytes : Text) (token : Token) : Type 0 where
  pub at : IsBetween bytes token
  pub quote : ℕ
  pub inside : Text
  pub is : is_quote quote ≡ true
  pub made : at.text ≡ quote ∷ (inside ++ quote ∷ [])
  pub within : IsInside quote inside
  pub free : takes_along false inside ≡ false

-- a text ends at the first quote that may end it
abbrev pub TextsAreQuoted : Type 0
TextsAreQuoted = (bytes : Text) (tokens : List Token) → AreTokensOf bytes tokens
    → All (λ token. token.kind ≡ Quoted → IsQuoted bytes token) tokens

-- ---- what isn't closed

-- a text or a comment begins with the bytes, and none of them ends it: a text ends on its line
pub data IsUnclosed : Text → Type 0 where
  open_text : (quote : ℕ) (inside behind : Text) → is_quote quote ≡ true → IsInside quote inside → EndsLine behind
      → IsUnclosed (quote ∷ (inside ++ behind))
  open_comment : (text : Text) → HasNoEnd text → IsUnclosed (codes "/*" ++ text)

-- as `TileFrom`, with these bytes after the last
abbrev pub TileUpTo : Text → ℕ → Text → List Token → Type 0
TileUpTo behind place bytes [] = AreDropped bytes behind
TileUpTo behind place bytes (token ∷ tokens) =
    (gap : Text) × (text : Text) × (rest : Text) × (bytes ≡ gap ++ text ++ rest)
    × AreDropped gap (text ++ rest ++ behind)
    × (token.start ≡ place + length gap) × (token.end ≡ token.start + length text) × (0 < length text)
    × TileUpTo behind token.end rest tokens

-- Bytes are tiled by tokens and what is dropped, up to a text or a comment that isn't closed, on this line.
pub record IsTiledUpTo (bytes : Text) (line : ℕ) : Type 0 where
  pub front : Text
  pub rest : Text
  pub tokens : List Token
  pub split : bytes ≡ front ++ rest
  pub tiled : TileUpTo rest 0 front tokens
  pub unclosed : IsUnclosed rest
  pub counted : line ≡ 1 + count_by (λ b. b == line_feed) front

-- where bytes have no tokens, a text or a comment isn't closed, and its line is the one that is named
abbrev pub OpenIsUnclosed : Type 0
OpenIsUnclosed = (bytes : Text) (line : ℕ) → IsOpenOn bytes line → IsTiledUpTo bytes line
