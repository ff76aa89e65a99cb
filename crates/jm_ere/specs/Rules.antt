-- How a reader goes over the tokens of a formula: what a token means, and what was read so far after it. The nodes of
-- the formula are written with each operator after its operands.
use Rattle.std.specs.Prelude.{ℕ, zero, suc, ◌≡◌, Bool, true, false, List, [], ◌∷◌, ◌++◌, Option, Some, None, option_and_then, codes, if◌then◌else◌}
use Rattle.jm_model.specs.Words.{Text}
use Rattle.jm_text.specs.declared.token.Token.{Token}
use Rattle.jm_text.specs.Texts.{is_name, is_word, is_mark}
use Rattle.jm_ere.specs.declared.formula.Atom.TheVariants.{Name, Epsilon, Empty}
use Rattle.jm_ere.specs.declared.formula.Unary.TheVariants.{Not, Any, Many}
use Rattle.jm_ere.specs.declared.formula.Binary.{Binary}
use Rattle.jm_ere.specs.declared.formula.Binary.TheVariants.{Then, Either, Both}
use Rattle.jm_ere.specs.declared.formula.Node.{Node}
use Rattle.jm_ere.specs.declared.formula.Node.TheVariants.{Push, Wrap, Join}
use Rattle.jm_ere.specs.declared.parse.Lexeme.{Lexeme}
use Rattle.jm_ere.specs.declared.parse.Lexeme.TheVariants.{Operand, Opening, Closing, Tilde, Asterisk, PlusSign, Bar, Ampersand, Other}
use Rattle.jm_ere.specs.declared.parse.Pending.{Pending}
use Rattle.jm_ere.specs.declared.parse.Parser.{Parser}
use Rattle.jm_ere.specs.Formulas.{Formula, Leaf, Over, Between}

-- what a token means
unfoldable pub lexeme_of : Text → Token → Lexeme
lexeme_of bytes t =
    if is_word bytes t (codes "epsilon") then Operand Epsilon
    else if is_word bytes t (codes "empty") then Operand Empty
    else if is_name bytes t then Operand (Name t)
    else if is_mark bytes t (codes "(") then Opening
    else if is_mark bytes t (codes ")") then Closing
    else if is_mark bytes t (codes "~") then Tilde
    else if is_mark bytes t (codes "*") then Asterisk
    else if is_mark bytes t (codes "+") then PlusSign
    else if is_mark bytes t (codes "|") then Bar
    else if is_mark bytes t (codes "&") then Ampersand
    else Other

-- the nodes of a formula, operands first
abbrev pub postfix : Formula → List Node
postfix (Leaf atom) = Push atom ∷ []
postfix (Over operator f) = postfix f ++ Wrap operator ∷ []
postfix (Between operator f g) = (postfix f ++ postfix g) ++ Join operator ∷ []

-- they are a formula's
abbrev pub IsWritten : List Node → Type 0
IsWritten nodes = (f : Formula) × (nodes ≡ postfix f)

-- nothing was read since the last parenthesis
abbrev pub fresh : Pending
fresh = record { has_either = false; has_both = false; has_then = false; nots = 0; ready = false }

abbrev pub beginning : Parser
beginning = record { nodes = []; pending = fresh; outer = [] }

-- the operators that wait, the innermost first
abbrev pub flag : Bool → Binary → List Node
flag has operator = if has then Join operator ∷ [] else []

abbrev pub complements : ℕ → List Node
complements zero = []
complements (suc n) = complements n ++ Wrap Not ∷ []

abbrev pub end_sequence : Pending → List Node
end_sequence f = complements f.nots ++ flag f.has_then Then

abbrev pub end_both : Pending → List Node
end_both f = end_sequence f ++ flag f.has_both Both

abbrev pub end_either : Pending → List Node
end_either f = end_both f ++ flag f.has_either Either

-- some nodes are written
abbrev pub with_nodes : Parser → List Node → Parser
with_nodes p nodes = record p { nodes = p.nodes ++ nodes }

abbrev pub with_pending : Parser → Pending → Parser
with_pending p f = record p { pending = f }

-- another operand begins after the last
abbrev pub juxtaposed : Parser → Parser
juxtaposed p =
    with_pending (with_nodes p (end_sequence p.pending)) (record p.pending { has_then = true; nots = 0; ready = false })

-- the innermost parenthesis is closed
abbrev pub closed : List Pending → Parser → Option Parser
closed [] p = None
closed (f ∷ fs) p =
    Some (record { nodes = p.nodes ++ end_either p.pending; pending = record f { ready = true }; outer = fs })

-- after a token where an operand is to come
abbrev pub before_operand : Parser → Lexeme → Option Parser
before_operand p (Operand atom) =
    Some (with_pending (with_nodes p (Push atom ∷ [])) (record p.pending { ready = true }))
before_operand p Opening = Some (record p { pending = fresh; outer = p.pending ∷ p.outer })
before_operand p Tilde = Some (with_pending p (record p.pending { nots = suc p.pending.nots }))
before_operand p _ = None

-- after a token after an operand
abbrev pub behind_operand : Parser → Lexeme → Option Parser
behind_operand p Asterisk = Some (with_nodes p (Wrap Any ∷ []))
behind_operand p PlusSign = Some (with_nodes p (Wrap Many ∷ []))
behind_operand p Ampersand = Some
    (with_pending (with_nodes p (end_both p.pending))
    (record p.pending { has_both = true; has_then = false; nots = 0; ready = false }))
behind_operand p Bar = Some (with_pending (with_nodes p (end_either p.pending))
    (record p.pending { has_either = true; has_both = false; has_then = false; nots = 0; ready = false }))
behind_operand p Closing = closed p.outer p
behind_operand p Other = None
behind_operand p sign = before_operand (juxtaposed p) sign

-- after a token; nothing, where it can't go on so
abbrev pub after_lexeme : Parser → Lexeme → Option Parser
after_lexeme p sign = if p.pending.ready then behind_operand p sign else before_operand p sign

-- after all tokens
abbrev pub after_all : Text → Parser → List Token → Option Parser
after_all bytes p [] = Some p
after_all bytes p (t ∷ ts) = option_and_then (λ next. after_all bytes next ts) (after_lexeme p (lexeme_of bytes t))

-- all nodes, if the formula may end
abbrev pub finished : List Pending → Bool → Parser → Option (List Node)
finished [] true p = Some (p.nodes ++ end_either p.pending)
finished _ _ p = None

-- the nodes of the formula that the tokens spell, or nothing
unfoldable pub parsed : Text → List Token → Option (List Node)
parsed bytes tokens = option_and_then (λ p. finished p.outer p.pending.ready p) (after_all bytes beginning tokens)
