-- Lists put in order, each element once.
use Rattle.std.proofs.Common.{◌≡◌, true, List, [], ◌∷◌, refl, sym, ◌∙◌, ap, subst}
use Rattle.std.specs.Prelude.{Contains, Some, None, ◌↔◌}
use Rattle.std.specs.List.{dedup}
use Rattle.std.specs.List.Sorted.{IsStrictlySortedBy, IsSorted, IsPermutation}
use Rattle.std.specs.Cmp.{IsTotalOrder}
use Rattle.std.specs.Option.{option_cmp}
use Rattle.std.specs.Ordering.{nat_cmp, ordering_then, is_eq, eq_by_cmp}
use Rattle.std.specs.declared.cmp.Ordering.{Ordering}
use Rattle.std.specs.declared.cmp.Ordering.TheVariants.{Less, Equal, Greater}
use Rattle.std.proofs.lemmas.Cmp.{eq_by_cmp_equiv}
use Rattle.std.proofs.lemmas.Map.Lookups.{CmpEqualImpliesEq, exact_unsigned}
use Rattle.std.proofs.lemmas.List.Kept.{IsStrictlySortedBy-dedup, Contains-dedup, Contains-from_dedup}
use Rattle.std.proofs.lemmas.List.Sorted.{Contains-permutation, IsPermutation-sym}
use Rattle.jm_model.specs.Bindings.{binding_cmp}
use Rattle.jm_model.specs.declared.binding.Binding.{Binding}
use Rattle.jm_model.specs.declared.firings.Firing.{Firing}
use Rattle.jm_semantics.specs.Answers.{firing_cmp}
use Rattle.jm_semantics.proofs.OrderLemmas.{binding_cmp_total, firing_cmp_total}

-- ---- what ties is one
exact_options : CmpEqualImpliesEq (option_cmp nat_cmp)
exact_options None None e = refl
exact_options None (Some q) e = absurd (cc)
exact_options (Some o) None e = absurd (cc)
exact_options (Some o) (Some q) e = ap Some (exact_unsigned o q e)

then_ties : (r s : Ordering) → ordering_then r s ≡ Equal → (r ≡ Equal) × (s ≡ Equal)
then_ties Less s e = absurd (cc)
then_ties Equal s e = (refl, e)
then_ties Greater s e = absurd (cc)

exact_bindings : CmpEqualImpliesEq binding_cmp
exact_bindings [] [] e = refl
exact_bindings [] (y ∷ t) e = absurd (cc)
exact_bindings (x ∷ b) [] e = absurd (cc)
exact_bindings (x ∷ b) (y ∷ t) e =
    let ties = then_ties (option_cmp nat_cmp x y) (binding_cmp b t) e in
    ap (λ z. z ∷ b) (exact_options x y ties.0) ∙ ap (λ v. y ∷ v) (exact_bindings b t ties.1)

exact_firings : CmpEqualImpliesEq firing_cmp
exact_firings f g e =
    let ties = then_ties (binding_cmp f.instance g.instance) (nat_cmp f.handler g.handler) e in
    let instance : f.instance ≡ g.instance = exact_bindings f.instance g.instance ties.0 in
    let handler : f.handler ≡ g.handler = exact_unsigned f.handler g.handler ties.1 in
    λ i. record { instance = instance i; handler = handler i }

-- ---- in order, each once
pub record IsInOrder {X : Type 0} (R : X → X → Ordering) (old new : List X) : Type 0 where
  pub increasing : IsStrictlySortedBy R new
  pub same : (x : X) → Contains old x ↔ Contains new x

tied : (o : Ordering) → is_eq o ≡ true → o ≡ Equal
tied Less e = absurd (cc (e))
tied Equal e = refl
tied Greater e = absurd (cc (e))

ordered : {X : Type 0} {R : X → X → Ordering} → IsTotalOrder R → CmpEqualImpliesEq R → (old mid new : List X) → IsPermutation old mid → IsSorted R mid → new ≡ dedup (eq_by_cmp R) mid → IsInOrder R old new
ordered {X} {R} o exact old mid new perm sorted is = subst (λ l. IsInOrder R old l) (sym is) (record {
  increasing = IsStrictlySortedBy-dedup o (λ x y. refl) mid sorted;
  same = λ x. (
    (λ h. Contains-dedup (eq_by_cmp_equiv o) (λ a b e. exact a b (tied (R a b) e)) mid x (Contains-permutation old mid x perm h)),
    (λ h. Contains-permutation mid old x (IsPermutation-sym old mid perm) (Contains-from_dedup (eq_by_cmp R) mid x h)),
  );
})

pub ordered_firings : (old mid new : List Firing) → IsPermutation old mid → IsSorted firing_cmp mid → new ≡ dedup (eq_by_cmp firing_cmp) mid → IsInOrder firing_cmp old new
ordered_firings = ordered firing_cmp_total exact_firings

pub ordered_bindings : (old mid new : List Binding) → IsPermutation old mid → IsSorted binding_cmp mid → new ≡ dedup (eq_by_cmp binding_cmp) mid → IsInOrder binding_cmp old new
ordered_bindings = ordered binding_cmp_total exact_bindings
