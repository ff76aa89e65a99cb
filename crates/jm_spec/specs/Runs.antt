-- How far the runs of the grammar go.
use Rattle.std.specs.Prelude.{ℕ, ◌+◌, Bool, true, false, not, ◌&&◌, ◌||◌, List, [], ◌∷◌, Option, Some, None, option_map, option_and_then, codes, if◌then◌else◌}
use Rattle.jm_model.specs.Words.{Text}
use Rattle.jm_text.specs.declared.token.Token.{Token}
use Rattle.jm_text.specs.Texts.{is_name, is_mark}
use Rattle.jm_spec.specs.declared.brackets.Bracket.{Bracket}
use Rattle.jm_spec.specs.declared.brackets.Bracket.TheVariants.{Round, Curly}
use Rattle.jm_spec.specs.declared.brackets.Sign.{Sign}
use Rattle.jm_spec.specs.declared.brackets.Sign.TheVariants.{Close, Comma, Semicolon}
use Rattle.jm_spec.specs.Brackets.{sign_of, without_angles, after_sign, hold_commas}

-- the number that is larger by k, if there is one
abbrev pub plus : ℕ → Option ℕ → Option ℕ
plus k n = option_map (λ m. m + k) n

-- one token more
abbrev pub one_more : Option ℕ → Option ℕ
one_more n = plus 1 n

-- the tokens up to and with the first `;`
abbrev pub clause_length : Text → List Token → Option ℕ
clause_length bytes [] = None
clause_length bytes (t ∷ ts) = if is_mark bytes t (codes ";") then Some 1 else one_more (clause_length bytes ts)

-- a member ends at a `;` or a `}`
abbrev pub may_end : Sign → Bool
may_end Semicolon = true
may_end (Close Curly) = true
may_end _ = false

-- whether a member ends with a token, where these brackets are open after it
abbrev pub ends_member : List Bracket → Sign → Bool
ends_member [] sign = may_end sign
ends_member _ sign = false

-- what a run takes from a token on, where it takes so many more after it, if it doesn't end with the token
abbrev pub member_behind : Sign → Option (List Bracket) → (List Bracket → Option ℕ) → Option ℕ
member_behind sign None more = None
member_behind sign (Some stack) more = if ends_member stack sign then Some 1 else one_more (more stack)

-- inside these brackets: the tokens up to and with the first `;` or the first block outside brackets, if they match. A
-- block outside brackets ends with a `}` that leaves none open.
abbrev pub member_rest : Text → List Bracket → List Token → Option ℕ
member_rest bytes stack [] = None
member_rest bytes stack (t ∷ ts) =
    member_behind (without_angles (sign_of bytes t)) (after_sign stack (without_angles (sign_of bytes t)))
    (λ inner. member_rest bytes inner ts)

abbrev pub member_length : Text → List Token → Option ℕ
member_length bytes tokens = member_rest bytes [] tokens

abbrev pub is_none_open : List Bracket → Bool
is_none_open [] = true
is_none_open _ = false

-- a comma parts parameters where no angle, round or square bracket is open, and a `)` ends them outside brackets
abbrev pub parts : List Bracket → Sign → Bool
parts stack Comma = not (hold_commas stack)
parts stack (Close Round) = is_none_open stack
parts stack _ = false

abbrev pub parameter_behind : List Bracket → Sign → (List Bracket → Option ℕ) → Option ℕ
parameter_behind stack sign more =
    if parts stack sign then (if is_none_open stack then Some 0 else None)
    else option_and_then (λ inner. one_more (more inner)) (after_sign stack sign)

-- inside these brackets: the tokens before the next comma that parts parameters or the `)` that ends them, if they
-- match
abbrev pub parameter_rest : Text → List Bracket → List Token → Option ℕ
parameter_rest bytes stack [] = None
parameter_rest bytes stack (t ∷ ts) = parameter_behind stack (sign_of bytes t) (λ inner. parameter_rest bytes inner ts)

abbrev pub parameter_length : Text → List Token → Option ℕ
parameter_length bytes tokens = parameter_rest bytes [] tokens

-- a name and a colon begin a property
abbrev pub begins_property : Text → List Token → Bool
begins_property bytes (t ∷ u ∷ ts) = is_name bytes t && is_mark bytes u (codes ":")
begins_property bytes _ = false

-- a formula ends before a `@`, a `}` and a property
abbrev pub ends_formula : Text → List Token → Bool
ends_formula bytes [] = false
ends_formula bytes (t ∷ ts) =
    is_mark bytes t (codes "@") || is_mark bytes t (codes "}") || begins_property bytes (t ∷ ts)

-- the tokens before the first `@`, the first `}`, or the first name with a colon after it
abbrev pub formula_length : Text → List Token → Option ℕ
formula_length bytes [] = None
formula_length bytes (t ∷ ts) = if ends_formula bytes (t ∷ ts) then Some 0 else one_more (formula_length bytes ts)
