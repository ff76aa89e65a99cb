use Rattle.std.proofs.Common.{◌≡◌, ℕ, ◌⊎◌, List, Result, Ok, Err, IsUtf8, inl, inr, refl}
use Rattle.jm_text.specs.declared.token.Token.{Token}
use Rattle.jm_text.specs.Tokens.{token_list, AreTokensOf, IsOpenOn}
use Rattle.jm_text.proofs.laws.one_reading.Goals as goal

-- what the bytes are cut into is a list or a line
one_of_both : (bytes : List ℕ) (r : Result (List Token) ℕ) → token_list bytes ≡ r → IsUtf8 bytes → ((tokens : List Token) × AreTokensOf bytes tokens) ⊎ ((line : ℕ) × IsOpenOn bytes line)
one_of_both bytes (Ok tokens) cut utf8 = inl (tokens, record { utf8 = utf8; cut = cut })
one_of_both bytes (Err line) cut utf8 = inr (line, record { utf8 = utf8; cut = cut })

pub returns-clause-either : goal.returns-clause-either
returns-clause-either c = λ bytes utf8. one_of_both bytes (token_list bytes) refl utf8
