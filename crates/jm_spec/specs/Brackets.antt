-- The brackets of a run of tokens.
use Rattle.std.specs.Prelude.{ℕ, ◌==◌, Bool, true, false, not, List, [], ◌∷◌, ◌++◌, Option, Some, None, option_map, count_by, nat_lt, if◌then◌else◌}
use Rattle.jm_model.specs.Words.{Text}
use Rattle.jm_text.specs.declared.token.Token.{Token}
use Rattle.jm_text.specs.Spans.{text_of}
use Rattle.jm_text.specs.Texts.{is_mark_kind}
use Rattle.jm_spec.specs.declared.brackets.Bracket.{Bracket}
use Rattle.jm_spec.specs.declared.brackets.Bracket.TheVariants.{Round, Square, Curly, Angle}
use Rattle.jm_spec.specs.declared.brackets.Sign.{Sign}
use Rattle.jm_spec.specs.declared.brackets.Sign.TheVariants.{Open, Close, Comma, Semicolon, Plain}

abbrev pub sign_of_byte : ℕ → Sign
sign_of_byte b =
    if b == 40 then Open Round
    else if b == 91 then Open Square
    else if b == 123 then Open Curly
    else if b == 60 then Open Angle
    else if b == 41 then Close Round
    else if b == 93 then Close Square
    else if b == 125 then Close Curly
    else if b == 62 then Close Angle
    else if b == 44 then Comma
    else if b == 59 then Semicolon
    else Plain

abbrev pub sign_of_text : Text → Sign
sign_of_text (b ∷ []) = sign_of_byte b
sign_of_text _ = Plain

-- what a token means to the runs: that of its byte, if it is a mark of one byte (so `(*)` and `[*]` are no brackets)
unfoldable pub sign_of : Text → Token → Sign
sign_of bytes token = if is_mark_kind token.kind then sign_of_text (text_of bytes token) else Plain

-- outside a list of parameters angle brackets are no brackets
abbrev pub without_angles : Sign → Sign
without_angles (Open Angle) = Plain
without_angles (Close Angle) = Plain
without_angles sign = sign

abbrev pub is_same : Bracket → Bracket → Bool
is_same Round Round = true
is_same Square Square = true
is_same Curly Curly = true
is_same Angle Angle = true
is_same _ _ = false

-- the brackets that stay open where the innermost, which stands last, is closed, if it is of the kind
abbrev pub closed : Bracket → List Bracket → Option (List Bracket)
closed b [] = None
closed b (o ∷ []) = if is_same o b then Some [] else None
closed b (o ∷ p ∷ os) = option_map (λ rest. o ∷ rest) (closed b (p ∷ os))

-- the brackets that are open after a token, outermost first, if they match so far
abbrev pub after_sign : List Bracket → Sign → Option (List Bracket)
after_sign stack (Open b) = Some (stack ++ b ∷ [])
after_sign stack (Close b) = closed b stack
after_sign stack _ = Some stack

abbrev pub is_curly : Bracket → Bool
is_curly Curly = true
is_curly _ = false

-- how many brackets keep a comma from parting parameters
abbrev pub holding_of : List Bracket → ℕ
holding_of stack = count_by (λ b. not (is_curly b)) stack

abbrev pub hold_commas : List Bracket → Bool
hold_commas stack = nat_lt 0 (holding_of stack)
