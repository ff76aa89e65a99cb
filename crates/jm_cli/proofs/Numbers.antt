-- A short number can be parsed.
use Rattle.std.proofs.Common.{ℕ, ◌≡◌, ◌<◌, ◌^◌, List, length, true, Err, arith, rules}
use Rattle.std.proofs.lemmas.Str.Parse.{IsNumeralModel, numerals_by_value, parse_digits, digits_value_short}
use Rattle.std.specs.Char.{is_ascii_digit}
use Rattle.std.specs.List.{list_all}
use Rattle.std.specs.Str.Parse.{IsNumeral, without_leading_plus, digits_value}
use Rattle.jm_cli.specs.Words.{is_short_number}

pub own : IsNumeralModel (λ ds. list_all is_ascii_digit ds ≡ true) (digits_value 10)
own = numerals_by_value _ (search rules)

pub digits : (word : List ℕ) → is_short_number word ≡ true → list_all is_ascii_digit word ≡ true
digits word short = search rules

pub some : (word : List ℕ) → is_short_number word ≡ true → (0 < length word) × (length word < 5)
some word short = search rules

-- it isn't refused
pub not_refused : (word : List ℕ)
    → ¬ (IsNumeral 10 (without_leading_plus word) × (digits_value 10 (without_leading_plus word) < 2 ^ 32))
    → is_short_number word ≡ true → ⊥
not_refused word refused short =
    let bounds = some word short in
    let all = digits word short in
    parse_digits own 32 word (Err (tt {0})) refused all (bounds.0, omega (arith, digits_value_short own word 4 all (omega arith)))
