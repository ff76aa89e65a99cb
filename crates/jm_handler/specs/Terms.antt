-- What a statement prints.
use Rattle.std.specs.Prelude.{ℕ, ◌≡◌, ◌-◌, ◌==◌, Bool, true, false, ◌&&◌, ◌||◌, nat_le, List, [], ◌∷◌, length, slice_index, slice_range, Option, Some, None, option_map, codes, if◌then◌else◌}
use Rattle.jm_text.specs.declared.token.Token.{Token}
use Rattle.jm_text.specs.declared.token.TokenKind.{TokenKind}
use Rattle.jm_text.specs.declared.token.TokenKind.TheVariants.{Text}
use Rattle.jm_text.specs.Pieces.{backslash}
use Rattle.jm_text.specs.Spans.{text_of}
use Rattle.jm_text.specs.Texts.{is_word, is_mark, is_name}
use Rattle.jm_reading.specs.Reading.{is_mark_at, is_word_at}
use Rattle.jm_events.specs.Names.{number_of}
use Rattle.jm_handler.specs.declared.term.Term.{Term}
use Rattle.jm_handler.specs.declared.term.Term.TheVariants.{Literal, Parameter, Place}

-- ---- a text in double quotes
abbrev pub double_quote : ℕ
double_quote = 34

abbrev pub is_text_kind : TokenKind → Bool
is_text_kind Text = true
is_text_kind _ = false

abbrev pub is_quoted : List ℕ → Token → Bool
is_quoted bytes token = is_text_kind token.kind && slice_index (text_of bytes token) 0 == double_quote

-- what stands between the quotes
abbrev pub inside_of : List ℕ → List ℕ
inside_of text = slice_range text 1 (length text - 1)

-- the byte that a backslash and this byte stand for, if they are an escape: `\n`, `\t`, `\"`, `\'` or `\\`
abbrev pub escaped : ℕ → Option ℕ
escaped b =
    if b == 110 then Some 10
    else if b == 116 then Some 9
    else if b == double_quote then Some b
    else if b == 39 then Some b
    else if b == backslash then Some b
    else None

-- a byte, and what is after it: where it is a backslash that begins an escape, the escape's byte stands for the two
abbrev pub led_by : Option ℕ → ℕ → List ℕ → List ℕ → List ℕ
led_by (Some e) b behind_two behind_one = e ∷ behind_two
led_by None b behind_two behind_one = b ∷ behind_one

-- the bytes of a text where each escape is one byte; any other backslash stands for itself
abbrev pub resolved : List ℕ → List ℕ
resolved [] = []
resolved (b ∷ []) = b ∷ []
resolved (b ∷ c ∷ bs) = led_by (if b == backslash then escaped c else None) b (resolved bs) (resolved (c ∷ bs))

-- ---- terms
-- what a token is as a term, if it is one: a text in double quotes, the place, or the parameter that has its name
abbrev pub term_of : List ℕ → List (List ℕ) → Token → Option Term
term_of bytes parameters token =
    if is_quoted bytes token then Some (Literal (resolved (inside_of (text_of bytes token))))
    else if is_word bytes token (codes "__LOC") then Some Place
    else if is_name bytes token then option_map (λ p. Parameter p) (number_of parameters (text_of bytes token))
    else None

-- the terms after a term, each with a `+` before it
abbrev pub AreMoreTerms : List ℕ → List (List ℕ) → List Token → List Term → Type 0
AreMoreTerms bytes parameters [] terms = terms ≡ []
AreMoreTerms bytes parameters (plus ∷ []) terms = ⊥
AreMoreTerms bytes parameters (plus ∷ t ∷ ts) terms =
    (term : Term) × (more : List Term) × (terms ≡ term ∷ more) × (is_mark bytes plus (codes "+") ≡ true)
    × (term_of bytes parameters t ≡ Some term) × AreMoreTerms bytes parameters ts more

-- terms with a `+` between two, or none
abbrev pub AreTerms : List ℕ → List (List ℕ) → List Token → List Term → Type 0
AreTerms bytes parameters [] terms = terms ≡ []
AreTerms bytes parameters (t ∷ ts) terms =
    (term : Term) × (more : List Term) × (terms ≡ term ∷ more) × (term_of bytes parameters t ≡ Some term)
    × AreMoreTerms bytes parameters ts more

-- the tokens aren't terms with a `+` between two
abbrev pub AreNoTerms : List ℕ → List (List ℕ) → List Token → Type 0
AreNoTerms bytes parameters tokens = (terms : List Term) → AreTerms bytes parameters tokens terms → ⊥

-- ---- statements that print
-- the first tokens are `System.out.println(` or `System.err.println(`, and the last are `);`
abbrev pub is_call : List ℕ → List Token → Bool
is_call bytes run =
    nat_le 8 (length run) && is_word_at bytes run 0 (codes "System") && is_mark_at bytes run 1 (codes ".")
    && (is_word_at bytes run 2 (codes "out") || is_word_at bytes run 2 (codes "err"))
    && is_mark_at bytes run 3 (codes ".")
    && is_word_at bytes run 4 (codes "println") && is_mark_at bytes run 5 (codes "(")
    && is_mark_at bytes run (length run - 2) (codes ")") && is_mark_at bytes run (length run - 1) (codes ";")

-- the statement prints these terms: it is such a call of them
pub record Prints (bytes : List ℕ) (parameters : List (List ℕ)) (run : List Token) (terms : List Term) : Type 0 where
  pub form : is_call bytes run ≡ true
  pub called : AreTerms bytes parameters (slice_range run 6 (length run - 2)) terms

-- the statement prints no terms
abbrev pub PrintsNone : List ℕ → List (List ℕ) → List Token → Type 0
PrintsNone bytes parameters run = (terms : List Term) → Prints bytes parameters run terms → ⊥
