use Rattle.std.specs.Prelude.{ℕ}
use Rattle.jm_ere.specs.declared.tree.Operator.{Operator}

-- A regular expression over letters, which are numbers.
pub data Expression : Type 0 where
  Symbol : (letter : ℕ) → Expression
  EmptyWord : Expression
  NoWord : Expression
  Complement : (r : Expression) → Expression
  Star : (r : Expression) → Expression
  Plus : (r : Expression) → Expression
  Product : (r s : Expression) → Expression
  Combination : (operator : Operator) (r s : Expression) → Expression
