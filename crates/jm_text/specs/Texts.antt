-- What a token says.
use Rattle.std.specs.Prelude.{ℕ, Bool, true, false, not, ◌&&◌, ◌||◌, ◌==◌, [], ◌∷◌}
use Rattle.std.specs.List.{list_all}
use Rattle.std.specs.Char.{is_ascii_alphanumeric, is_ascii_digit}
use Rattle.std.specs.Str.{bytes_eq}
use Rattle.jm_model.specs.Words.{Text}
use Rattle.jm_text.specs.declared.token.Token.{Token}
use Rattle.jm_text.specs.declared.token.TokenKind.{TokenKind}
use Rattle.jm_text.specs.declared.token.TokenKind.TheVariants.{Word, Mark}
use Rattle.jm_text.specs.Spans.{text_of}

abbrev pub is_word_kind : TokenKind → Bool
is_word_kind Word = true
is_word_kind _ = false

abbrev pub is_mark_kind : TokenKind → Bool
is_mark_kind Mark = true
is_mark_kind _ = false

-- the token is this word, or this mark
abbrev pub is_word : Text → Token → Text → Bool
is_word bytes token word = is_word_kind token.kind && bytes_eq (text_of bytes token) word

abbrev pub is_mark : Text → Token → Text → Bool
is_mark bytes token mark = is_mark_kind token.kind && bytes_eq (text_of bytes token) mark

-- ASCII letters, digits, `_` and `$`
abbrev pub is_name_byte : ℕ → Bool
is_name_byte b = is_ascii_alphanumeric b || b == 95 || b == 36

-- some of these bytes, of which the first is no digit
abbrev pub is_name_text : Text → Bool
is_name_text [] = false
is_name_text (b ∷ bs) = not (is_ascii_digit b) && list_all is_name_byte (b ∷ bs)

-- a word that may name something
abbrev pub is_name : Text → Token → Bool
is_name bytes token = is_word_kind token.kind && is_name_text (text_of bytes token)
