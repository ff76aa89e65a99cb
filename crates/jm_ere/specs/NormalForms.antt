-- The normal forms of regular expressions, by which derivatives are told apart and counted. They stand here for the two
-- limits alone: what an expression means is told in `Languages`.
use Rattle.std.specs.Prelude.{ℕ, ◌+◌, ◌*◌, ◌%◌, ◌==◌, nat_le, Bool, true, false, ◌&&◌, ◌||◌, not, Result, Ok, Err, if◌then◌else◌}
use Rattle.std.specs.Ordering.{nat_cmp, ordering_then}
use Rattle.std.specs.declared.cmp.Ordering.{Ordering}
use Rattle.std.specs.declared.cmp.Ordering.TheVariants.{Less, Equal, Greater}
use Rattle.jm_model.specs.declared.fault.Counted.TheVariants.{Term}
use Rattle.jm_model.specs.declared.fault.SpecFault.{SpecFault}
use Rattle.jm_model.specs.declared.fault.SpecFault.TheVariants.{TooMany}
use Rattle.jm_table.specs.Graphs.{GraphMeaning}
use Rattle.jm_ere.specs.declared.tree.Operator.{Operator}
use Rattle.jm_ere.specs.declared.tree.Operator.TheVariants.{Or, And}
use Rattle.jm_ere.specs.Expressions.{Expression, Symbol, EmptyWord, NoWord, Complement, Star, Plus, Product, Combination}

-- ---- one fixed order

abbrev pub rank : Expression → ℕ
rank (Symbol x) = 0
rank EmptyWord = 1
rank NoWord = 2
rank (Complement r) = 3
rank (Star r) = 4
rank (Plus r) = 5
rank (Product r s) = 6
rank (Combination op r s) = 7

-- `|` comes before `&`
abbrev pub rank_of_operator : Operator → ℕ
rank_of_operator Or = 0
rank_of_operator And = 1

-- by kind and operator, and then part by part
abbrev pub order : Expression → Expression → Ordering
order (Symbol x) (Symbol y) = nat_cmp x y
order (Complement r) (Complement s) = order r s
order (Star r) (Star s) = order r s
order (Plus r) (Plus s) = order r s
order (Product r s) (Product p q) = ordering_then (order r p) (order s q)
order (Combination op r s) (Combination other p q) =
    ordering_then (ordering_then (nat_cmp (rank_of_operator op) (rank_of_operator other)) (order r p)) (order s q)
order r s = nat_cmp (rank r) (rank s)

abbrev pub by_order : {X : Type 0} → Ordering → X → X → X → X
by_order Less x y z = x
by_order Equal x y z = y
by_order Greater x y z = z

-- ---- the forms that rules ask for

-- `empty`
abbrev pub is_nothing : Expression → Bool
is_nothing NoWord = true
is_nothing r = false

-- `~empty`
abbrev pub is_everything : Expression → Bool
is_everything (Complement r) = is_nothing r
is_everything r = false

-- `epsilon`
abbrev pub is_epsilon : Expression → Bool
is_epsilon EmptyWord = true
is_epsilon r = false

abbrev pub is_product : Expression → Bool
is_product (Product r s) = true
is_product r = false

-- ---- `|` and `&`, whose runs are told alike

abbrev pub is_run : Operator → Expression → Bool
is_run Or (Combination Or r s) = true
is_run And (Combination And r s) = true
is_run op r = false

-- what is dropped from a run: `empty` from one of `|`, and `~empty` from one of `&`
abbrev pub is_unit : Operator → Expression → Bool
is_unit Or r = is_nothing r
is_unit And r = is_everything r

-- what the whole run is where it is a member: `~empty` of one of `|`, and `empty` of one of `&`
abbrev pub is_zero : Operator → Expression → Bool
is_zero Or r = is_everything r
is_zero And r = is_nothing r

-- ---- the operators over normal forms

-- `~r`: `~~r` is `r`
abbrev pub complement_of : Expression → Expression
complement_of (Complement r) = r
complement_of r = Complement r

-- `r*`: `empty*` and `epsilon*` are `epsilon`, and `r**` is `r*`
abbrev pub star_of : Expression → Expression
star_of NoWord = EmptyWord
star_of EmptyWord = EmptyWord
star_of (Star r) = Star r
star_of r = Star r

-- `r s`, where `s` is neither `empty` nor `epsilon`: nested to the right
abbrev pub before : Expression → Expression → Expression
before NoWord s = NoWord
before EmptyWord s = s
before (Product p q) s = Product p (before q s)
before r s = Product r s

-- `r s`: `epsilon` is dropped, and with `empty` in it the whole is `empty`
abbrev pub product_of : Expression → Expression → Expression
product_of r s = if is_nothing s then NoWord else (if is_epsilon s then r else before r s)

-- A run of an operator is nested to the right, and sorted without doubles. One more member `t` of such a run, whose
-- first member is `r`; `rest` is what then stands after `r`, if `t` belongs there:
abbrev pub placed : Operator → Expression → Expression → Expression → Expression → Expression
placed op t r run rest = by_order (order t r) (Combination op t run) run (Combination op r rest)

-- one more member of such a run, which may be one form
abbrev pub put : Operator → Expression → Expression → Expression
put Or t (Combination Or r s) = placed Or t r (Combination Or r s) (put Or t s)
put And t (Combination And r s) = placed And t r (Combination And r s) (put And t s)
put op t r = placed op t r r t

-- a member of a run, and the rest: a unit is dropped, and with a zero among them the whole is the zero
abbrev pub join : Operator → Expression → Expression → Expression
join op t run =
    if is_unit op t || is_zero op run then run else (if is_zero op t || is_unit op run then t else put op t run)

-- `r | s`, or `r & s`: the members of `r`, which may be a run itself, are put among those of `s`
abbrev pub combined : Operator → Expression → Expression → Expression
combined Or (Combination Or p q) run = combined Or q (combined Or p run)
combined And (Combination And p q) run = combined And q (combined And p run)
combined op t run = join op t run

-- ---- sizes

-- the nodes of a normal form, where a run of `|` or of `&` counts as one beside its members
abbrev pub size_of : Expression → ℕ
size_of (Complement r) = 1 + size_of r
size_of (Star r) = 1 + size_of r
size_of (Plus r) = 1 + size_of r
size_of (Product r s) = 1 + (size_of r + size_of s)
size_of (Combination op r s) = (if is_run op s then 0 else 1) + (size_of r + size_of s)
size_of r = 1

-- a form, or the fault of one with more than 4,096 nodes
abbrev pub Formed : Type 0
Formed = Result Expression SpecFault

abbrev pub fitting : Expression → Formed
fitting r = if nat_le (size_of r) 4096 then Ok r else Err (TooMany Term)

infixl 10 ◌>>=◌
abbrev pub ◌>>=◌ : Formed → (Expression → Formed) → Formed
Ok r >>= f = f r
Err fault >>= f = Err fault

-- What is made of a part is a part itself and has to fit, unless the part is inside a run that is made at once.
abbrev pub part : Bool → Formed → Formed
part inside formed = formed >>= λ r. if inside then Ok r else fitting r

-- ---- the two uses

-- The normal form of a written expression, whose own size isn't asked yet. `r+` is read as `r r*`.
abbrev pub normal_run : Expression → Formed
normal_run (Complement r) = part false (normal_run r) >>= λ n. Ok (complement_of n)
normal_run (Star r) = part false (normal_run r) >>= λ n. Ok (star_of n)
normal_run (Plus r) = part false (normal_run r) >>= λ n. fitting (star_of n) >>= λ s. Ok (product_of n s)
normal_run (Product r s) =
    part (is_product r) (normal_run r) >>= λ n. part (is_product s) (normal_run s) >>= λ m. Ok (product_of n m)
normal_run (Combination op r s) =
    part (is_run op r) (normal_run r) >>= λ n. part (is_run op s) (normal_run s) >>= λ m. Ok (combined op n m)
normal_run r = Ok r

-- the normal form of a written expression
abbrev pub normal_form : Expression → Formed
normal_form r = part false (normal_run r)

-- the expression has the empty word
abbrev pub is_nullable : Expression → Bool
is_nullable (Symbol x) = false
is_nullable EmptyWord = true
is_nullable NoWord = false
is_nullable (Complement r) = not (is_nullable r)
is_nullable (Star r) = true
is_nullable (Plus r) = is_nullable r
is_nullable (Product r s) = is_nullable r && is_nullable s
is_nullable (Combination Or r s) = is_nullable r || is_nullable s
is_nullable (Combination And r s) = is_nullable r && is_nullable s

-- The derivative of a normal form by a letter, whose own size isn't asked yet.
abbrev pub derivative_run : ℕ → Expression → Formed
derivative_run x (Symbol y) = Ok (if x == y then EmptyWord else NoWord)
derivative_run x EmptyWord = Ok NoWord
derivative_run x NoWord = Ok NoWord
derivative_run x (Complement r) = part false (derivative_run x r) >>= λ d. Ok (complement_of d)
derivative_run x (Star r) = part false (derivative_run x r) >>= λ d. Ok (product_of d (Star r))
derivative_run x (Plus r) = part false (derivative_run x r) >>= λ d. Ok (product_of d (star_of r))
derivative_run x (Product r s) =
    let front = part false (derivative_run x r) >>= λ d. Ok (product_of d s) in
    if is_nullable r then (part false front >>= λ d. part false (derivative_run x s) >>= λ e. Ok (combined Or d e))
    else front
derivative_run x (Combination op r s) =
    part false (derivative_run x r) >>= λ d. part (is_run op s) (derivative_run x s) >>= λ e. Ok (combined op d e)

-- the derivative of a normal form by a letter
abbrev pub derivative : ℕ → Expression → Formed
derivative x r = part false (derivative_run x r)

-- What is found: the normal form of the expression, and all derivatives.
abbrev pub forms_of : Expression → GraphMeaning Expression
forms_of e = record { start = normal_form e; step = λ r letter. derivative letter r }

-- ---- the key of a form, by which known ones are looked up

-- of the keys of two parts, and a number of the kind
abbrev pub mixed : ℕ → ℕ → ℕ → ℕ
mixed kind first second = (first * 16777619 + second * 40503 + kind) % 4294967291

abbrev pub key_of : Expression → ℕ
key_of (Symbol x) = mixed 8 x 0
key_of EmptyWord = 1
key_of NoWord = 2
key_of (Complement r) = mixed 3 (key_of r) 0
key_of (Star r) = mixed 4 (key_of r) 0
key_of (Plus r) = mixed 5 (key_of r) 0
key_of (Product r s) = mixed 6 (key_of r) (key_of s)
key_of (Combination Or r s) = mixed 7 (key_of r) (key_of s)
key_of (Combination And r s) = mixed 9 (key_of r) (key_of s)
