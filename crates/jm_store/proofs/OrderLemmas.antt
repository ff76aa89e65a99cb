-- Bindings that tie in the order.
use Rattle.std.proofs.Common.{◌≡◌, ℕ, [], ◌∷◌, refl, ap}
use Rattle.std.specs.Prelude.{Option, Some, None}
use Rattle.std.specs.Option.{option_cmp}
use Rattle.std.specs.Ordering.{nat_cmp, ordering_then, MatchOrdering}
use Rattle.std.specs.declared.cmp.Ordering.{Ordering}
use Rattle.std.specs.declared.cmp.Ordering.TheVariants.{Less, Equal, Greater}
use Rattle.std.proofs.lemmas.Cmp.{ranked}
use Rattle.jm_model.specs.Bindings.{binding_cmp}
use Rattle.jm_model.specs.declared.binding.Binding.{Binding}

pub then-Equal : (o p : Ordering) → ordering_then o p ≡ Equal → (o ≡ Equal) × (p ≡ Equal)
then-Equal Less p h = absurd (cc)
then-Equal Equal p h = (refl, h)
then-Equal Greater p h = absurd (cc)

pub nat-Equal : (x y : ℕ) → nat_cmp x y ≡ Equal → x ≡ y
nat-Equal x y h = at_equal _ _ (nat_cmp x y) (ranked x y (nat_cmp x y) refl) h
  where
    at_equal : (P Q : Type 0) (o : Ordering) → MatchOrdering o P (x ≡ y) Q → o ≡ Equal → x ≡ y
    at_equal P Q Less m e = absurd (cc)
    at_equal P Q Equal m e = m
    at_equal P Q Greater m e = absurd (cc)

option-Equal : (x y : Option ℕ) → option_cmp nat_cmp x y ≡ Equal → x ≡ y
option-Equal None None h = refl
option-Equal None (Some q) h = absurd (cc)
option-Equal (Some o) None h = absurd (cc)
option-Equal (Some o) (Some q) h = ap Some (nat-Equal o q h)

-- bindings that tie in the order are equal
pub same_from_tie : (b t : Binding) → binding_cmp b t ≡ Equal → b ≡ t
same_from_tie [] [] h = refl
same_from_tie [] (y ∷ t) h = absurd (cc)
same_from_tie (x ∷ b) [] h = absurd (cc)
same_from_tie (x ∷ b) (y ∷ t) h =
    let parts = then-Equal (option_cmp nat_cmp x y) (binding_cmp b t) h in
    let first : x ≡ y = option-Equal x y parts.0 in
    let rest : b ≡ t = same_from_tie b t parts.1 in
    cc
