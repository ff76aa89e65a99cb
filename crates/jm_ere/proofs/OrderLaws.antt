use Rattle.std.proofs.Common.{ℕ, ◌≡◌, List, [], ◌∷◌, refl, sym, ap, ◌∙◌}
use Rattle.std.specs.Cmp.{IsTotalOrder}
use Rattle.std.specs.Cmp.Lexicographic.{slice_cmp}
use Rattle.std.specs.Ordering.{nat_cmp, ordering_then, ordering_reverse}
use Rattle.std.specs.declared.cmp.Ordering.{Ordering}
use Rattle.std.specs.declared.cmp.Ordering.TheVariants.{Less, Equal, Greater}
use Rattle.std.proofs.lemmas.Cmp.{nat_list_cmp_total}
use Rattle.jm_ere.specs.Expressions.{Expression, Symbol, EmptyWord, NoWord, Complement, Star, Plus, Product, Combination}
use Rattle.jm_ere.specs.NormalForms.{rank_of_operator, order}

-- the kinds and letters of an expression, operators first, before these numbers
abbrev kinds_of : Expression → List ℕ → List ℕ
kinds_of (Symbol x) rest = 0 ∷ x ∷ rest
kinds_of EmptyWord rest = 1 ∷ rest
kinds_of NoWord rest = 2 ∷ rest
kinds_of (Complement r) rest = 3 ∷ kinds_of r rest
kinds_of (Star r) rest = 4 ∷ kinds_of r rest
kinds_of (Plus r) rest = 5 ∷ kinds_of r rest
kinds_of (Product r s) rest = 6 ∷ kinds_of r (kinds_of s rest)
kinds_of (Combination op r s) rest = 7 ∷ rank_of_operator op ∷ kinds_of r (kinds_of s rest)

then_again : (a b c : Ordering) → ordering_then a (ordering_then b c) ≡ ordering_then (ordering_then a b) c
then_again Less b c = refl
then_again Equal b c = refl
then_again Greater b c = refl

-- the lists of kinds are ordered as the expressions are, and then as what stands after
kinds_tell : (r s : Expression) (u v : List ℕ) → slice_cmp nat_cmp (kinds_of r u) (kinds_of s v) ≡ ordering_then (order r s) (slice_cmp nat_cmp u v)
kinds_tell (Symbol x) (Symbol y) u v = refl
kinds_tell EmptyWord EmptyWord u v = refl
kinds_tell NoWord NoWord u v = refl
kinds_tell (Complement r) (Complement s) u v = kinds_tell r s u v
kinds_tell (Star r) (Star s) u v = kinds_tell r s u v
kinds_tell (Plus r) (Plus s) u v = kinds_tell r s u v
kinds_tell (Product r s) (Product p q) u v =
    kinds_tell r p (kinds_of s u) (kinds_of q v) ∙ ap (λ o. ordering_then (order r p) o) (kinds_tell s q u v) ∙ then_again (order r p) (order s q) (slice_cmp nat_cmp u v)
kinds_tell (Combination op r s) (Combination other p q) u v =
    let operators = nat_cmp (rank_of_operator op) (rank_of_operator other) in
    let behind = slice_cmp nat_cmp u v in
    ap (λ o. ordering_then operators o) (kinds_tell r p (kinds_of s u) (kinds_of q v) ∙ ap (λ o. ordering_then (order r p) o) (kinds_tell s q u v))
    ∙ then_again operators (order r p) (ordering_then (order s q) behind) ∙ then_again (ordering_then operators (order r p)) (order s q) behind
kinds_tell r s u v = refl

then_equal : (a : Ordering) → ordering_then a Equal ≡ a
then_equal Less = refl
then_equal Equal = refl
then_equal Greater = refl

order_is : (r s : Expression) → order r s ≡ slice_cmp nat_cmp (kinds_of r []) (kinds_of s [])
order_is r s = sym (kinds_tell r s [] [] ∙ then_equal (order r s))

lists : IsTotalOrder (slice_cmp nat_cmp)
lists = nat_list_cmp_total

-- the order is a total one
pub order_total : IsTotalOrder order
order_total = record {
  antisymm = λ r s. order_is r s ∙ lists.antisymm (kinds_of r []) (kinds_of s []) ∙ sym (ap ordering_reverse (order_is s r));
  trans = λ r s t less more. order_is r t ∙ lists.trans (kinds_of r []) (kinds_of s []) (kinds_of t []) (sym (order_is r s) ∙ less) (sym (order_is s t) ∙ more);
  congr = λ r s t same. order_is r t ∙ lists.congr (kinds_of r []) (kinds_of s []) (kinds_of t []) (sym (order_is r s) ∙ same) ∙ sym (order_is s t);
}
