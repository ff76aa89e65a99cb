use Rattle.std.proofs.Common.{ℕ, ◌≡◌, refl, sym, ap}
use Rattle.std.specs.Ordering.{nat_cmp, ordering_then}
use Rattle.std.specs.declared.cmp.Ordering.{Ordering}
use Rattle.std.specs.declared.cmp.Ordering.TheVariants.{Less, Equal, Greater}
use Rattle.std.proofs.lemmas.Cmp.{ranked, tied_itself, nat_cmp_total}
use Rattle.jm_ere.specs.declared.tree.Operator.{Operator}
use Rattle.jm_ere.specs.declared.tree.Operator.TheVariants.{Or, And}
use Rattle.jm_ere.specs.Expressions.{Expression, Symbol, EmptyWord, NoWord, Complement, Star, Plus, Product, Combination}
use Rattle.jm_ere.specs.NormalForms.{rank_of_operator, order}

numbers_equal : (x y : ℕ) → nat_cmp x y ≡ Equal → x ≡ y
numbers_equal x y e = let h = ranked x y Equal (sym e) in h

both_equal : (a b : Ordering) → ordering_then a b ≡ Equal → (a ≡ Equal) × (b ≡ Equal)
both_equal Less b e = cc
both_equal Equal b e = (refl, e)
both_equal Greater b e = cc

same_operator : (a b : Operator) → rank_of_operator a ≡ rank_of_operator b → a ≡ b
same_operator Or Or e = refl
same_operator And And e = refl
same_operator a b e = cc

-- the order tells expressions apart
pub order_tells : (r s : Expression) → order r s ≡ Equal → r ≡ s
order_tells (Symbol x) (Symbol y) e = ap Symbol (numbers_equal x y e)
order_tells EmptyWord EmptyWord e = refl
order_tells NoWord NoWord e = refl
order_tells (Complement r) (Complement s) e = ap Complement (order_tells r s e)
order_tells (Star r) (Star s) e = ap Star (order_tells r s e)
order_tells (Plus r) (Plus s) e = ap Plus (order_tells r s e)
order_tells (Product r s) (Product p q) e = let h = both_equal (order r p) (order s q) e in let a = order_tells r p h.0 in let b = order_tells s q h.1 in cc
order_tells (Combination op r s) (Combination other p q) e =
    let operators = nat_cmp (rank_of_operator op) (rank_of_operator other) in
    let h = both_equal (ordering_then operators (order r p)) (order s q) e in
    let k = both_equal operators (order r p) h.0 in
    let o = same_operator op other (numbers_equal _ _ k.0) in let a = order_tells r p k.1 in let b = order_tells s q h.1 in cc
order_tells r s e = cc

pub order_itself : (r : Expression) → order r r ≡ Equal
order_itself (Symbol x) = tied_itself nat_cmp_total x
order_itself EmptyWord = refl
order_itself NoWord = refl
order_itself (Complement r) = order_itself r
order_itself (Star r) = order_itself r
order_itself (Plus r) = order_itself r
order_itself (Product r s) = rw (order_itself r) (order_itself s)
order_itself (Combination op r s) = rw (tied_itself nat_cmp_total (rank_of_operator op), order_itself r) (order_itself s)

pub order_same : (r s : Expression) → r ≡ s → order r s ≡ Equal
order_same r s e = rw (← e) (order_itself r)
