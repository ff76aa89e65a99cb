-- What the tokens of a formula spell, by the grammar of regular expressions:
--
--   Formula = Alt
--   Alt     = And { "|" And }
--   And     = Seq { "&" Seq }
--   Seq     = Not { Not }
--   Not     = "~" Not | Rep
--   Rep     = Atom { "*" | "+" }
--   Atom    = NAME | "epsilon" | "empty" | "(" Alt ")"
--
-- where an Atom's NAME is neither `epsilon` nor `empty`, and operators that repeat group to the left.
use Rattle.std.specs.Prelude.{◌≡◌, false, List, [], ◌∷◌, ◌++◌, codes}
use Rattle.jm_model.specs.Words.{Text}
use Rattle.jm_text.specs.declared.token.Token.{Token}
use Rattle.jm_text.specs.Texts.{is_word}
use Rattle.jm_reading.specs.Tokens.{IsName, IsWord, IsMark}
use Rattle.jm_ere.specs.declared.formula.Atom.TheVariants.{Name, Epsilon, Empty}
use Rattle.jm_ere.specs.declared.formula.Unary.TheVariants.{Not, Any, Many}
use Rattle.jm_ere.specs.declared.formula.Binary.TheVariants.{Then, Either, Both}
use Rattle.jm_ere.specs.Formulas.{Formula, Leaf, Over, Between}

-- the rules of the grammar
pub data Rule : Type 0 where
  AltRule : Rule
  AndRule : Rule
  SeqRule : Rule
  NotRule : Rule
  RepRule : Rule
  AtomRule : Rule

-- by this rule the tokens spell the formula
pub data SpellsBy (bytes : Text) : Rule → List Token → Formula → Type 0 where
  name : (t : Token) → IsName bytes t → is_word bytes t (codes "epsilon") ≡ false
      → is_word bytes t (codes "empty") ≡ false → SpellsBy bytes AtomRule (t ∷ []) (Leaf (Name t))
  epsilon : (t : Token) → IsWord bytes (codes "epsilon") t → SpellsBy bytes AtomRule (t ∷ []) (Leaf Epsilon)
  empty : (t : Token) → IsWord bytes (codes "empty") t → SpellsBy bytes AtomRule (t ∷ []) (Leaf Empty)
  inside : (opening : Token) (tokens : List Token) (closing : Token) (f : Formula)
      → IsMark bytes (codes "(") opening → SpellsBy bytes AltRule tokens f → IsMark bytes (codes ")") closing
      → SpellsBy bytes AtomRule (opening ∷ tokens ++ closing ∷ []) f
  one_atom : (tokens : List Token) (f : Formula) → SpellsBy bytes AtomRule tokens f → SpellsBy bytes RepRule tokens f
  any : (tokens : List Token) (star : Token) (f : Formula) → SpellsBy bytes RepRule tokens f
      → IsMark bytes (codes "*") star → SpellsBy bytes RepRule (tokens ++ star ∷ []) (Over Any f)
  many : (tokens : List Token) (plus : Token) (f : Formula) → SpellsBy bytes RepRule tokens f
      → IsMark bytes (codes "+") plus → SpellsBy bytes RepRule (tokens ++ plus ∷ []) (Over Many f)
  one_rep : (tokens : List Token) (f : Formula) → SpellsBy bytes RepRule tokens f → SpellsBy bytes NotRule tokens f
  complement : (tilde : Token) (tokens : List Token) (f : Formula) → IsMark bytes (codes "~") tilde
      → SpellsBy bytes NotRule tokens f → SpellsBy bytes NotRule (tilde ∷ tokens) (Over Not f)
  one_not : (tokens : List Token) (f : Formula) → SpellsBy bytes NotRule tokens f → SpellsBy bytes SeqRule tokens f
  sequence : (front behind : List Token) (f g : Formula) → SpellsBy bytes SeqRule front f
      → SpellsBy bytes NotRule behind g → SpellsBy bytes SeqRule (front ++ behind) (Between Then f g)
  one_seq : (tokens : List Token) (f : Formula) → SpellsBy bytes SeqRule tokens f → SpellsBy bytes AndRule tokens f
  both : (front : List Token) (mark : Token) (behind : List Token) (f g : Formula) → SpellsBy bytes AndRule front f
      → IsMark bytes (codes "&") mark → SpellsBy bytes SeqRule behind g
      → SpellsBy bytes AndRule (front ++ mark ∷ behind) (Between Both f g)
  one_and : (tokens : List Token) (f : Formula) → SpellsBy bytes AndRule tokens f → SpellsBy bytes AltRule tokens f
  either : (front : List Token) (mark : Token) (behind : List Token) (f g : Formula) → SpellsBy bytes AltRule front f
      → IsMark bytes (codes "|") mark → SpellsBy bytes AndRule behind g
      → SpellsBy bytes AltRule (front ++ mark ∷ behind) (Between Either f g)

-- the tokens spell the formula
abbrev pub Spells : Text → List Token → Formula → Type 0
Spells bytes tokens f = SpellsBy bytes AltRule tokens f
