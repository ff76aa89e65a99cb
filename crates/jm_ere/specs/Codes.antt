-- An expression as a list of numbers that gives it back, by which a proof tells expressions apart: operands first.
use Rattle.std.specs.Prelude.{ℕ, zero, suc, ◌≡◌, List, [], ◌∷◌, fold, refl}
use Rattle.std.specs.Coded.{Coded, code_by, coded_list, coded_ℕ}
use Rattle.std.proofs.Common.{◌∙◌, ap}
use Rattle.jm_ere.specs.declared.tree.Operator.TheVariants.{Or, And}
use Rattle.jm_ere.specs.Expressions.{Expression, Symbol, EmptyWord, NoWord, Complement, Star, Plus, Product, Combination}

-- the numbers of an expression, before these
abbrev pub numbers_of : Expression → List ℕ → List ℕ
numbers_of EmptyWord rest = 0 ∷ rest
numbers_of NoWord rest = 1 ∷ rest
numbers_of (Complement r) rest = numbers_of r (2 ∷ rest)
numbers_of (Star r) rest = numbers_of r (3 ∷ rest)
numbers_of (Plus r) rest = numbers_of r (4 ∷ rest)
numbers_of (Product r s) rest = numbers_of r (numbers_of s (5 ∷ rest))
numbers_of (Combination Or r s) rest = numbers_of r (numbers_of s (6 ∷ rest))
numbers_of (Combination And r s) rest = numbers_of r (numbers_of s (7 ∷ rest))
numbers_of (Symbol x) rest = suc (suc (suc (suc (suc (suc (suc (suc x))))))) ∷ rest

-- a number makes an expression of the topmost ones
abbrev pub made_of : List Expression → ℕ → List Expression
made_of stack zero = EmptyWord ∷ stack
made_of stack (suc zero) = NoWord ∷ stack
made_of (r ∷ stack) (suc (suc zero)) = Complement r ∷ stack
made_of (r ∷ stack) (suc (suc (suc zero))) = Star r ∷ stack
made_of (r ∷ stack) (suc (suc (suc (suc zero)))) = Plus r ∷ stack
made_of (s ∷ r ∷ stack) (suc (suc (suc (suc (suc zero))))) = Product r s ∷ stack
made_of (s ∷ r ∷ stack) (suc (suc (suc (suc (suc (suc zero)))))) = Combination Or r s ∷ stack
made_of (s ∷ r ∷ stack) (suc (suc (suc (suc (suc (suc (suc zero))))))) = Combination And r s ∷ stack
made_of stack (suc (suc (suc (suc (suc (suc (suc (suc x)))))))) = Symbol x ∷ stack
made_of _ _ = []

abbrev pub topmost : List Expression → Expression
topmost [] = EmptyWord
topmost (e ∷ stack) = e

abbrev pub from_numbers : List ℕ → Expression
from_numbers numbers = topmost (fold made_of [] numbers)

abbrev pub numbers_give : (e : Expression) (stack : List Expression) (rest : List ℕ)
    → fold made_of stack (numbers_of e rest) ≡ fold made_of (e ∷ stack) rest
numbers_give EmptyWord stack rest = refl
numbers_give NoWord stack rest = refl
numbers_give (Complement r) stack rest = numbers_give r stack (2 ∷ rest)
numbers_give (Star r) stack rest = numbers_give r stack (3 ∷ rest)
numbers_give (Plus r) stack rest = numbers_give r stack (4 ∷ rest)
numbers_give (Product r s) stack rest =
    numbers_give r stack (numbers_of s (5 ∷ rest)) ∙ numbers_give s (r ∷ stack) (5 ∷ rest)
numbers_give (Combination Or r s) stack rest =
    numbers_give r stack (numbers_of s (6 ∷ rest)) ∙ numbers_give s (r ∷ stack) (6 ∷ rest)
numbers_give (Combination And r s) stack rest =
    numbers_give r stack (numbers_of s (7 ∷ rest)) ∙ numbers_give s (r ∷ stack) (7 ∷ rest)
numbers_give (Symbol x) (r ∷ s ∷ stack) rest = refl
numbers_give (Symbol x) (r ∷ []) rest = refl
numbers_give (Symbol x) [] rest = refl

abbrev pub expression_code : Coded Expression
expression_code =
    code_by (List ℕ) (coded_list coded_ℕ) (λ e. numbers_of e []) from_numbers (λ e. ap topmost (numbers_give e [] []))
