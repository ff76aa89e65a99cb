-- What the tokens of a formula spell, by the grammar of past-time formulas:
--
--   Formula = Imp { "<=>" Imp }                                 rank 6
--   Imp     = Or [ "=>" Imp ]                                   rank 5
--   Or      = Xor { ( "||" | "or" ) Xor }                       rank 4
--   Xor     = And { "xor" And }                                 rank 3
--   And     = Since { ( "&&" | "and" ) Since }                  rank 2
--   Since   = Unary { "S" Unary }                               rank 1
--   Unary   = ( "!" | "not" | "[*]" | "<*>" | "(*)" ) Unary     rank 0
--           | NAME | "true" | "false" | "(" Formula ")"
--
-- NAME is a name that the grammar doesn't write in quotes. Operators that repeat group to the left, and `=>` to the
-- right: so the left part of an operator is of its own rank and the right part below it, and with `=>` the other way
-- round.
use Rattle.std.specs.Prelude.{ℕ, zero, suc, ◌≡◌, Bool, List, [], ◌∷◌, ◌++◌}
use Rattle.jm_model.specs.Words.{Text}
use Rattle.jm_text.specs.declared.token.Token.{Token}
use Rattle.jm_ptltl.specs.declared.formula.Unary.{Unary}
use Rattle.jm_ptltl.specs.declared.formula.Binary.{Binary}
use Rattle.jm_ptltl.specs.declared.formula.Binary.TheVariants.{Implies}
use Rattle.jm_ptltl.specs.declared.lexicon.Class.TheVariants.{Prefix, Infix, Constant, Name, Open, Close}
use Rattle.jm_ptltl.specs.Formulas.{Formula, event, constant, unary, binary}
use Rattle.jm_ptltl.specs.Lexicon.{class_of, rank_of}

-- the tokens spell the formula at a rank
pub data SpellsAt (bytes : Text) : ℕ → List Token → Formula Token → Type 0 where
  -- one part alone
  alone : {k : ℕ} {tokens : List Token} {f : Formula Token} → SpellsAt bytes k tokens f
      → SpellsAt bytes (suc k) tokens f
  -- two parts and the operator of this rank between them, to the left
  joined : {k : ℕ} {tokens : List Token} {f g : Formula Token} {op : Binary} (t : Token) (left right : List Token)
      → rank_of op ≡ suc k → (op ≡ Implies → ⊥) → class_of bytes t ≡ Infix op
      → tokens ≡ left ++ t ∷ right → SpellsAt bytes (suc k) left f → SpellsAt bytes k right g
      → SpellsAt bytes (suc k) tokens (binary op f g)
  -- and to the right
  implied : {k : ℕ} {tokens : List Token} {f g : Formula Token} (t : Token) (left right : List Token)
      → rank_of Implies ≡ suc k → class_of bytes t ≡ Infix Implies
      → tokens ≡ left ++ t ∷ right → SpellsAt bytes k left f → SpellsAt bytes (suc k) right g
      → SpellsAt bytes (suc k) tokens (binary Implies f g)
  -- an operator of one part
  prefixed : {tokens : List Token} {f : Formula Token} {op : Unary} (t : Token) (rest : List Token)
      → class_of bytes t ≡ Prefix op
      → tokens ≡ t ∷ rest → SpellsAt bytes zero rest f → SpellsAt bytes zero tokens (unary op f)
  -- an event, `true` or `false`
  named : {tokens : List Token} {t : Token} → class_of bytes t ≡ Name → tokens ≡ t ∷ []
      → SpellsAt bytes zero tokens (event t)
  truth : {tokens : List Token} {b : Bool} (t : Token) → class_of bytes t ≡ Constant b → tokens ≡ t ∷ []
      → SpellsAt bytes zero tokens (constant b)
  -- a formula in parentheses
  nested : {tokens : List Token} {f : Formula Token} (opening closing : Token) (inner : List Token)
      → class_of bytes opening ≡ Open → class_of bytes closing ≡ Close
      → tokens ≡ opening ∷ (inner ++ closing ∷ []) → SpellsAt bytes 6 inner f → SpellsAt bytes zero tokens f

-- the tokens spell the formula
unfoldable pub Spells : Text → List Token → Formula Token → Type 0
Spells bytes tokens f = SpellsAt bytes 6 tokens f
