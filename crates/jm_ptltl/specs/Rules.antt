-- What each rule of the grammar reads at the front of a list of tokens, where the next token decides.
use Rattle.std.specs.Prelude.{ℕ, zero, suc, ◌==◌, Bool, false, List, [], ◌∷◌, ◌++◌, length, Option, Some, None, if◌then◌else◌}
use Rattle.jm_model.specs.Words.{Text}
use Rattle.jm_text.specs.declared.token.Token.{Token}
use Rattle.jm_ptltl.specs.declared.formula.Unary.{Unary}
use Rattle.jm_ptltl.specs.declared.formula.Binary.TheVariants.{Implies}
use Rattle.jm_ptltl.specs.declared.lexicon.Class.{Class}
use Rattle.jm_ptltl.specs.declared.lexicon.Class.TheVariants.{Prefix, Infix, Constant, Name, Open, Close, Other}
use Rattle.jm_ptltl.specs.Formulas.{Formula, event, constant, unary, binary}
use Rattle.jm_ptltl.specs.Lexicon.{class_of, rank_of}
use Rattle.jm_reading.specs.Reading.{◌>>=◌, at_most}

-- a formula, and the tokens after it
abbrev pub Read : Type 0
Read = Formula Token × List Token

-- what reads one at the front of tokens
abbrev pub Reader : Type 0
Reader = List Token → Option Read

-- what the class of a token decides

abbrev pub is_infix : ℕ → Class → Bool
is_infix rank (Infix op) = rank_of op == rank
is_infix rank _ = false

abbrev pub closed_by : Class → Formula Token → Reader
closed_by Close f ts = Some (f, ts)
closed_by _ f ts = None

abbrev pub atom_by : Class → Token → Option Read → Reader
atom_by Name t inside ts = Some (event t, ts)
atom_by (Constant b) t inside ts = Some (constant b, ts)
atom_by Open t inside ts = inside
atom_by _ t inside ts = None

-- an operator over what was read
abbrev pub over : Unary → Option Read → Option Read
over op read = read >>= λ r. Some (unary op r.0, r.1)

abbrev pub operand_by : Class → Option Read → Option Read → Option Read
operand_by (Prefix op) behind here = over op behind
operand_by _ behind here = here

abbrev pub join_by : Class → Formula Token → Option Read → Option Read
join_by (Infix op) f right = right >>= λ r. Some (binary op f r.0, r.1)
join_by _ f right = None

-- formulas with `=>` between them, and the last one
abbrev pub grouped : List (Formula Token) → Formula Token → Formula Token
grouped [] f = f
grouped (g ∷ gs) f = binary Implies g (grouped gs f)

abbrev pub Chain : Type 0
Chain = List (Formula Token) × Formula Token

-- after a token
abbrev pub skip_at : Reader → Reader
skip_at part [] = None
skip_at part (t ∷ ts) = part ts

abbrev pub imply_at : Reader → Chain → List Token → Option (Chain × List Token)
imply_at part chain tokens = skip_at part tokens >>= λ r. Some ((chain.0 ++ chain.1 ∷ [], r.0), r.1)

abbrev pub group : Option (Chain × List Token) → Option Read
group read = read >>= λ r. Some (grouped r.0.0 r.0.1, r.1)

module _ (bytes : Text) where
  -- the class of the next token
  abbrev pub class_at : List Token → Class
  class_at [] = Other
  class_at (t ∷ ts) = class_of bytes t

  -- an operator of this rank is next
  abbrev pub begins : ℕ → List Token → Bool
  begins rank tokens = is_infix rank (class_at tokens)

  -- ")"
  abbrev pub closed_at : Formula Token → Reader
  closed_at f [] = None
  closed_at f (t ∷ ts) = closed_by (class_of bytes t) f ts

  -- Formula ")", where `inner` reads the formula
  abbrev pub nested_at : Reader → Reader
  nested_at inner tokens = inner tokens >>= λ r. closed_at r.0 r.1

  -- NAME | "true" | "false" | "(" Formula ")"
  unfoldable pub atom_at : Reader → Reader
  atom_at inner [] = None
  atom_at inner (t ∷ ts) = atom_by (class_of bytes t) t (nested_at inner ts) ts

  -- operators of one part, and an atom
  abbrev pub operand_at : Reader → Reader
  operand_at inner [] = None
  operand_at inner (t ∷ ts) = operand_by (class_of bytes t) (operand_at inner ts) (atom_at inner (t ∷ ts))

  -- an operator and its right part
  abbrev pub join_at : Reader → Formula Token → Reader
  join_at part f [] = None
  join_at part f (t ∷ ts) = join_by (class_of bytes t) f (part ts)

  -- operators of a rank and their right parts, to the left
  abbrev pub more_at : Reader → ℕ → Formula Token → Reader
  more_at part rank f tokens = at_most (begins rank) (join_at part) (length tokens) f tokens

  -- operators `=>` and their right parts, to the right
  abbrev pub implied_at : Reader → Formula Token → Reader
  implied_at part f tokens = group (at_most (begins 5) (imply_at part) (length tokens) ([], f) tokens)

  -- a formula of this rank, where `inner` reads those in parentheses
  abbrev pub part_at : Reader → ℕ → Reader
  part_at inner zero tokens = operand_at inner tokens
  part_at inner (suc k) tokens = part_at inner k tokens >>= λ r. if k == 4
      then implied_at (part_at inner k) r.0 r.1 else more_at (part_at inner k) (suc k) r.0 r.1

  -- Formula ")"
  abbrev pub inside_at : Reader → Reader
  inside_at inner tokens = part_at inner 6 tokens >>= λ r. closed_at r.0 r.1

  -- a formula with so many parentheses in one another
  unfoldable pub formula_from : ℕ → Reader
  formula_from zero tokens = None
  formula_from (suc n) tokens = part_at (formula_from n) 6 tokens

-- all tokens
abbrev pub at_end : Read → Option (Formula Token)
at_end (f, []) = Some f
at_end (f, t ∷ ts) = None

abbrev pub formula_at : Text → List Token → Option (Formula Token)
formula_at bytes tokens = part_at bytes (formula_from bytes (length tokens)) 6 tokens >>= at_end
