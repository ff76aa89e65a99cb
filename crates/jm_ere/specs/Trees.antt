use Rattle.jm_ere.specs.declared.tree.Tree.{Tree}
use Rattle.jm_ere.specs.declared.tree.Tree.TheVariants.{Letter, Epsilon, Empty, Not', Star', Plus', Then', Combined'}
use Rattle.jm_ere.specs.Expressions.{Expression, Symbol, EmptyWord, NoWord, Complement, Star, Plus, Product, Combination}

-- what a tree stands for
abbrev pub expression_of : Tree → Expression
expression_of (Letter x) = Symbol x.0
expression_of Epsilon = EmptyWord
expression_of Empty = NoWord
expression_of (Not' p r) = Complement (expression_of r)
expression_of (Star' p r) = Star (expression_of r)
expression_of (Plus' p r) = Plus (expression_of r)
expression_of (Then' p r q s) = Product (expression_of r) (expression_of s)
expression_of (Combined' operator p r q s) = Combination operator (expression_of r) (expression_of s)
