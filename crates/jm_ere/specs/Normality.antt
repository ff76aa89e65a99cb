-- What normal forms look like: no rule is left to apply.
use Rattle.std.specs.Prelude.{◌≡◌, Bool, true, false}
use Rattle.std.specs.declared.cmp.Ordering.TheVariants.{Less}
use Rattle.jm_ere.specs.declared.tree.Operator.{Operator}
use Rattle.jm_ere.specs.declared.tree.Operator.TheVariants.{Or, And}
use Rattle.jm_ere.specs.Expressions.{Expression, Symbol, EmptyWord, NoWord, Complement, Star, Plus, Product, Combination}
use Rattle.jm_ere.specs.NormalForms.{order, is_nothing, is_everything, is_epsilon, is_product, is_run}

abbrev pub is_complement : Expression → Bool
is_complement (Complement r) = true
is_complement r = false

abbrev pub is_star : Expression → Bool
is_star (Star r) = true
is_star r = false

-- neither `empty` nor `~empty`
abbrev pub IsProper : Expression → Type 0
IsProper r = (is_nothing r ≡ false) × (is_everything r ≡ false)

-- neither `empty` nor `epsilon`
abbrev pub IsFactor : Expression → Type 0
IsFactor r = (is_nothing r ≡ false) × (is_epsilon r ≡ false)

-- the first member of a run of the operator, or the one form
abbrev pub first_of : Operator → Expression → Expression
first_of Or (Combination Or r s) = r
first_of And (Combination And r s) = r
first_of op r = r

-- a member of a run of the operator, and the rest of it
abbrev pub Rises : Operator → Expression → Expression → Type 0
Rises op r s = IsProper r × IsProper s × (is_run op r ≡ false) × (order r (first_of op s) ≡ Less)

-- Each operator stands over normal forms. There is no `~~r`, and no star of `empty`, `epsilon` or a star.
-- Juxtapositions are nested to the right, without `empty` and `epsilon`. Runs of `|` and of `&` are nested to the
-- right, without `empty` and `~empty`, and rise strictly: they are sorted, and have no doubles.
abbrev pub IsNormal : Expression → Type 0
IsNormal (Symbol x) = Unit {0}
IsNormal EmptyWord = Unit {0}
IsNormal NoWord = Unit {0}
IsNormal (Complement r) = IsNormal r × (is_complement r ≡ false)
IsNormal (Star r) = IsNormal r × IsFactor r × (is_star r ≡ false)
IsNormal (Plus r) = ⊥
IsNormal (Product r s) = IsNormal r × IsNormal s × IsFactor r × IsFactor s × (is_product r ≡ false)
IsNormal (Combination op r s) = IsNormal r × IsNormal s × Rises op r s
