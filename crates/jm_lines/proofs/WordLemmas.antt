-- The words of a line are a text, and they are found one after another.
use Rattle.std.proofs.Common.{◌≡◌, ℕ, zero, suc, ◌<◌, ◌+◌, Bool, true, false, ◌&&◌, eqb, List, [], ◌∷◌, ◌++◌, filter, length, get_or, drop, refl, sym, ap, ◌∙◌, append_assoc, arith}
use Rattle.std.specs.List.{list_all}
use Rattle.std.specs.Str.{IsUtf8, IsAscii}
use Rattle.std.proofs.lemmas.Bool.Decides.{nat_tests}
use Rattle.std.proofs.lemmas.List.{at_drop_more, drop_all}
use Rattle.std.proofs.lemmas.Str.{IsUtf8-from_ascii}
use Rattle.jm_lines.specs.Lines.{is_some_word}
use Rattle.jm_lines.specs.Objects.{is_object_byte, is_object}

object_byte_ascii : (b : ℕ) → is_object_byte b ≡ true → b < 128
object_byte_ascii b h = grind (arith, nat_tests)

pub both_right : (a b : Bool) → (a && b) ≡ true → b ≡ true
both_right true b h = h
both_right false b h = cc

pub both_left : (a b : Bool) → (a && b) ≡ true → a ≡ true
both_left true b h = refl
both_left false b h = h

object_bytes_ascii : (bytes : List ℕ) → list_all is_object_byte bytes ≡ true → IsAscii bytes
object_bytes_ascii [] h i = omega arith
object_bytes_ascii (b ∷ bytes) h zero = object_byte_ascii b (both_left _ _ h)
object_bytes_ascii (b ∷ bytes) h (suc i) = object_bytes_ascii bytes (both_right (is_object_byte b) _ h) i

-- the name of an object is a text
pub object_utf8 : (bytes : List ℕ) → is_object bytes ≡ true → IsUtf8 bytes
object_utf8 bytes h = IsUtf8-from_ascii bytes (object_bytes_ascii bytes (both_right _ _ h))

-- one part more of a line, which is empty or a word
module _ (words parts whole : List (List ℕ)) (n : ℕ) (part : List ℕ) (lt : n < length parts) (here : part ≡ get_or parts n part) (before : words ++ filter is_some_word (drop n parts) ≡ whole) where
  rest : filter is_some_word (drop n parts) ≡ filter is_some_word (part ∷ drop (n + 1) parts)
  rest = at_drop_more (filter is_some_word) parts n part lt ∙ ap (λ p. filter is_some_word (p ∷ drop (n + 1) parts)) (sym here)

  pub empty_more : eqb (length part) 0 ≡ true → words ++ filter is_some_word (drop (n + 1) parts) ≡ whole
  empty_more empty = ap (λ l. words ++ l) (rw empty refl ∙ sym rest) ∙ before

  pub word_more : eqb (length part) 0 ≡ false → (words ++ part ∷ []) ++ filter is_some_word (drop (n + 1) parts) ≡ whole
  word_more some = append_assoc words (part ∷ []) (filter is_some_word (drop (n + 1) parts)) ∙ ap (λ l. words ++ l) (rw some refl ∙ sym rest) ∙ before

-- no part is left
pub all_found : (words parts whole : List (List ℕ)) (n : ℕ) → n ≡ length parts → words ++ filter is_some_word (drop n parts) ≡ whole → words ≡ whole
all_found words parts whole n all before =
    let none : drop n parts ≡ [] = drop_all n parts (omega arith) in
    append_none words ∙ (rw none at before)
  where
    append_none : (words : List (List ℕ)) → words ≡ words ++ []
    append_none [] = refl
    append_none (word ∷ words) = ap (λ rest. word ∷ rest) (append_none words)
