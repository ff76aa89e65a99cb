-- The bytes of a name are ASCII, and so a text.
use Rattle.std.proofs.Common.{◌≡◌, ℕ, zero, suc, ◌<◌, Bool, true, false, ◌&&◌, List, [], ◌∷◌, Result, Ok, Err, MatchResult, is_ok, refl, arith}
use Rattle.std.specs.List.{list_all}
use Rattle.std.specs.Str.{IsUtf8, IsAscii}
use Rattle.std.specs.Borrow.{Bor}
use Rattle.std.proofs.lemmas.Bool.Decides.{nat_tests}
use Rattle.std.proofs.lemmas.Str.{IsUtf8-from_ascii}
use Rattle.jm_text.specs.declared.token.Token.{Token}
use Rattle.jm_text.specs.Spans.{text_of}
use Rattle.jm_text.specs.Texts.{is_word_kind, is_name_byte, is_name_text, is_name}

name_byte_ascii : (b : ℕ) → is_name_byte b ≡ true → b < 128
name_byte_ascii b h = grind (arith, nat_tests)

both_right : (a b : Bool) → (a && b) ≡ true → b ≡ true
both_right true b h = h
both_right false b h = cc

both_left : (a b : Bool) → (a && b) ≡ true → a ≡ true
both_left true b h = refl
both_left false b h = h

name_bytes_ascii : (bytes : List ℕ) → list_all is_name_byte bytes ≡ true → IsAscii bytes
name_bytes_ascii [] h i = omega arith
name_bytes_ascii (b ∷ bytes) h zero = name_byte_ascii b (both_left _ _ h)
name_bytes_ascii (b ∷ bytes) h (suc i) = name_bytes_ascii bytes (both_right (is_name_byte b) _ h) i

-- the bytes of a name are a text
pub name_utf8 : (bytes : List ℕ) → is_name_text bytes ≡ true → IsUtf8 bytes
name_utf8 [] h = cc
name_utf8 (b ∷ bytes) h = IsUtf8-from_ascii (b ∷ bytes) (name_bytes_ascii (b ∷ bytes) (both_right _ _ h))

word_named : (kind : Bool) (bytes : List ℕ) → (kind && is_name_text bytes) ≡ true → IsUtf8 bytes
word_named kind bytes h = name_utf8 bytes (both_right kind _ h)

-- so reading them as a text succeeds
pub named : {E : Type 0} (bytes : List ℕ) (token : Token) (r : Result (Bor (List ℕ)) E) (Q : E → Type 0) → is_name bytes token ≡ true → MatchResult r (λ s. (s.now ≡ text_of bytes token) × IsUtf8 (text_of bytes token)) (λ e. ¬ (IsUtf8 (text_of bytes token)) × Q e) → is_ok r ≡ true
named bytes token (Ok s) Q h cases = refl
named bytes token (Err e) Q h cases = absurd (cases.0 (word_named (is_word_kind token.kind) (text_of bytes token) h))
