-- Reading from the front of a list of tokens: a rule gives what it reads and the tokens after it, or nothing.
use Rattle.std.specs.Prelude.{ℕ, ◌-◌, List, [], ◌∷◌, length, drop, Option, Some, None, option_map, if◌then◌else◌}
use Rattle.jm_model.specs.Words.{Text}
use Rattle.jm_text.specs.declared.token.Token.{Token}
use Rattle.jm_text.specs.Texts.{is_word_kind}
use Rattle.jm_reading.specs.Reading.{◌>>=◌}
use Rattle.jm_reading.specs.Taking.{Rule}

-- the number of the next token of a file of so many
abbrev pub place : ℕ → List Token → ℕ
place total tokens = total - length tokens

-- a word, whichever it is
unfoldable pub any_word_at : List Token → Option (List Token)
any_word_at [] = None
any_word_at (t ∷ ts) = if is_word_kind t.kind then Some ts else None

-- so many tokens, if there is a number
abbrev pub passed : List Token → Option ℕ → Option (List Token)
passed tokens n = option_map (λ k. drop k tokens) n

-- a rule that keeps nothing of what it reads
abbrev pub unkept : (Text → List Token → Option (List Token)) → Unit {0} → Rule (Unit {0})
unkept rule u bytes tokens = rule bytes tokens >>= λ rest. Some (u, rest)
