-- Texts without line breaks.
use Rattle.std.proofs.Common.{◌≡◌, ◌==◌, ℕ, ◌<◌, ◌^◌, Bool, true, false, cond, List, [], ◌∷◌, ◌++◌, refl, ap, ◌∙◌, subst, arith}
use Rattle.std.specs.Prelude.{◌||◌, codes, decimal}
use Rattle.std.specs.List.{list_any}
use Rattle.std.specs.Char.{digit_value}
use Rattle.std.specs.Str.Parse.{AllDigits}
use Rattle.std.proofs.lemmas.Bool.{eqb-true}
use Rattle.std.proofs.lemmas.Fmt.{decimal_is_IsNumeral}
use Rattle.jm_text.specs.Pieces.{line_feed}
use Rattle.jm_handler.specs.Broken.{broken, broken_byte}

unbroken_byte : (b : ℕ) (rest : Bool) → ((b == line_feed) || rest) ≡ false → (broken_byte b ≡ b ∷ []) × (rest ≡ false)
unbroken_byte b rest =
    elim (b == line_feed) as (λ v. (v || rest) ≡ false → (cond v (codes "\n  > ") (b ∷ []) ≡ b ∷ []) × (rest ≡ false)) [
      | true ↦ λ e. cc
      | false ↦ λ e. (refl, e)
    ]

-- a text in which no line break stands is written as it is
pub broken_none : (text : List ℕ) → list_any (λ b. b == line_feed) text ≡ false → broken text ≡ text
broken_none [] none = refl
broken_none (b ∷ bs) none =
    let (here, behind) = unbroken_byte b (list_any (λ b. b == line_feed) bs) none in
    (λ u. here u ++ broken_none bs behind u)

line_feed_digit : digit_value line_feed < 10 → ⊥
line_feed_digit h = omega arith

digit_unbroken : (b : ℕ) → digit_value b < 10 → (b == line_feed) ≡ false
digit_unbroken b h = go (b == line_feed) refl
  where
    go : (v : Bool) → (b == line_feed) ≡ v → v ≡ false
    go true e = absurd (line_feed_digit (subst (λ (n : ℕ). digit_value n < 10) (eqb-true b line_feed e) h))
    go false e = refl

digits_unbroken : (ds : List ℕ) → AllDigits 10 ds → list_any (λ b. b == line_feed) ds ≡ false
digits_unbroken [] all = refl
digits_unbroken (d ∷ ds) (h, all) = ap (λ v. v || list_any (λ b. b == line_feed) ds) (digit_unbroken d h) ∙ digits_unbroken ds all

-- no line break stands in a number
pub broken-decimal : (n : ℕ) → n < 2 ^ 64 → broken (decimal n) ≡ decimal n
broken-decimal n h = let (is, value) = decimal_is_IsNumeral n h in broken_none (decimal n) (digits_unbroken (decimal n) is.1)
