-- What a token is in a formula.
use Rattle.std.specs.Prelude.{ℕ, Bool, true, false, List, [], ◌∷◌, codes, if◌then◌else◌}
use Rattle.std.specs.List.{list_any}
use Rattle.std.specs.Str.{bytes_eq}
use Rattle.jm_model.specs.Words.{Text as Bytes}
use Rattle.jm_text.specs.declared.token.Token.{Token}
use Rattle.jm_text.specs.declared.token.TokenKind.{TokenKind}
use Rattle.jm_text.specs.declared.token.TokenKind.TheVariants.{Word, Text, Mark}
use Rattle.jm_text.specs.Spans.{text_of}
use Rattle.jm_text.specs.Texts.{is_name_text}
use Rattle.jm_ptltl.specs.declared.formula.Unary.TheVariants.{Not, Historically, Once, Previously}
use Rattle.jm_ptltl.specs.declared.formula.Binary.{Binary}
use Rattle.jm_ptltl.specs.declared.formula.Binary.TheVariants.{Equivalent, Implies, Or, Xor, And, Since}
use Rattle.jm_ptltl.specs.declared.lexicon.Class.{Class}
use Rattle.jm_ptltl.specs.declared.lexicon.Class.TheVariants.{Prefix, Infix, Constant, Name, Open, Close, Other}

-- texts, and what a token of each is
abbrev pub marks : List (Bytes × Class)
marks =
    (codes "!", Prefix Not) ∷ (codes "[*]", Prefix Historically) ∷ (codes "<*>", Prefix Once)
    ∷ (codes "(*)", Prefix Previously) ∷ (codes "<=>", Infix Equivalent) ∷ (codes "=>", Infix Implies)
    ∷ (codes "||", Infix Or) ∷ (codes "&&", Infix And) ∷ (codes "(", Open) ∷ (codes ")", Close) ∷ []

-- the words of the grammar, which name no event
abbrev pub words : List (Bytes × Class)
words =
    (codes "not", Prefix Not) ∷ (codes "or", Infix Or) ∷ (codes "xor", Infix Xor) ∷ (codes "and", Infix And)
    ∷ (codes "S", Infix Since) ∷ (codes "true", Constant true) ∷ (codes "false", Constant false) ∷ []

abbrev pub is_grammar_word : Bytes → Bool
is_grammar_word name = list_any (λ w. bytes_eq name w.0) words

-- the class of the text among these, or another
abbrev pub class_among : List (Bytes × Class) → Class → Bytes → Class
class_among [] other text = other
class_among (one ∷ more) other text = if bytes_eq text one.0 then one.1 else class_among more other text

abbrev pub class_of_mark : Bytes → Class
class_of_mark text = class_among marks Other text

abbrev pub class_of_word : Bytes → Class
class_of_word text = class_among words (if is_name_text text then Name else Other) text

abbrev pub class_by_kind : TokenKind → Bytes → Class
class_by_kind Word text = class_of_word text
class_by_kind Mark text = class_of_mark text
class_by_kind Text text = Other

unfoldable pub class_of : Bytes → Token → Class
class_of bytes t = class_by_kind t.kind (text_of bytes t)

-- How loosely an operator binds: a part of an operator of a higher rank needs no parentheses.
abbrev pub rank_of : Binary → ℕ
rank_of Since = 1
rank_of And = 2
rank_of Xor = 3
rank_of Or = 4
rank_of Implies = 5
rank_of Equivalent = 6
