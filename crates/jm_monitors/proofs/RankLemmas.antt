-- The instances of a list of monitors, in the order of bindings.
use Rattle.std.proofs.Common.{◌≡◌, ◌≢◌, suc, inl, inr, List, [], ◌∷◌, length, refl, sym, ◌∙◌, ap, subst, arith}
use Rattle.std.specs.Prelude.{Contains, Some, None, ◌↔◌}
use Rattle.std.specs.List.{AllByRecursion, AllPairs}
use Rattle.std.specs.List.Sorted.{IsStrictlySortedBy}
use Rattle.std.specs.Cmp.{IsTotalOrder}
use Rattle.std.specs.Option.{option_cmp}
use Rattle.std.specs.Ordering.{nat_cmp, ordering_then, ordering_reverse}
use Rattle.std.specs.declared.cmp.Ordering.{Ordering}
use Rattle.std.specs.declared.cmp.Ordering.TheVariants.{Less, Equal, Greater}
use Rattle.std.proofs.lemmas.Map.Lookups.{CmpEqualImpliesEq, exact_unsigned}
use Rattle.std.proofs.lemmas.Map.Keys.{sorted_head, sorted_tail}
use Rattle.std.proofs.lemmas.List.Elements.{All-from_recursion, All-contains}
use Rattle.jm_model.specs.Bindings.{binding_cmp}
use Rattle.jm_model.specs.declared.binding.Binding.{Binding}
use Rattle.jm_semantics.proofs.ListLemmas.{Contains-nil, Contains-head, Contains-cons, Contains-cons_cases}
use Rattle.jm_semantics.proofs.OrderLemmas.{binding_cmp_total}
use Rattle.jm_monitors.specs.declared.stored.Stored.{Stored}
use Rattle.jm_monitors.specs.Stores.{HasInstance}

-- ---- bindings that tie are one
exact_options : CmpEqualImpliesEq (option_cmp nat_cmp)
exact_options None None e = refl
exact_options None (Some q) e = absurd (cc)
exact_options (Some o) None e = absurd (cc)
exact_options (Some o) (Some q) e = ap Some (exact_unsigned o q e)

then_ties : (r s : Ordering) → ordering_then r s ≡ Equal → (r ≡ Equal) × (s ≡ Equal)
then_ties Less s e = absurd (cc)
then_ties Equal s e = (refl, e)
then_ties Greater s e = absurd (cc)

pub exact_bindings : CmpEqualImpliesEq binding_cmp
exact_bindings [] [] e = refl
exact_bindings [] (y ∷ t) e = absurd (cc)
exact_bindings (x ∷ b) [] e = absurd (cc)
exact_bindings (x ∷ b) (y ∷ t) e =
    let ties = then_ties (option_cmp nat_cmp x y) (binding_cmp b t) e in
    ap (λ z. z ∷ b) (exact_options x y ties.0) ∙ ap (λ v. y ∷ v) (exact_bindings b t ties.1)

-- ---- one element more in a sorted list
-- the list is sorted, and has x and what the other has
record IsPlaced {K : Type 0} (R : K → K → Ordering) (x : K) (ys zs : List K) : Type 0 where
  increasing : IsStrictlySortedBy R zs
  same : (z : K) → Contains (x ∷ ys) z ↔ Contains zs z
  count : length zs ≡ suc (length ys)

module _ {K : Type 0} {R : K → K → Ordering} (o : IsTotalOrder R) (exact : CmpEqualImpliesEq R) where
  each_after : (x : K) (ys : List K) → ((y : K) → Contains ys y → R x y ≡ Less) → AllByRecursion (λ y. R x y ≡ Less) ys
  each_after x [] h = tt
  each_after x (y ∷ ys) h = (h y (Contains-head y ys), each_after x ys (λ z c. h z (Contains-cons y ys z c)))

  sorted-cons : (x : K) (ys : List K) → ((y : K) → Contains ys y → R x y ≡ Less) → IsStrictlySortedBy R ys → IsStrictlySortedBy R (x ∷ ys)
  unfolding IsStrictlySortedBy
  sorted-cons x ys h s = (each_after x ys h, s)

  first_before : (x : K) (ys : List K) (y : K) → IsStrictlySortedBy R (x ∷ ys) → Contains ys y → R x y ≡ Less
  first_before x ys y s h = All-contains (λ z. R x z ≡ Less) ys y (All-from_recursion (λ z. R x z ≡ Less) ys (sorted_head R x ys s)) h

  placed-first : (x y : K) (ys : List K) → IsStrictlySortedBy R (y ∷ ys) → R x y ≡ Less → IsPlaced R x (y ∷ ys) (x ∷ y ∷ ys)
  placed-first x y ys s less = record {
    increasing = sorted-cons x (y ∷ ys)
        (λ z h. elim (Contains-cons_cases y ys z h) [
          | inl same ↦ subst (λ v. R x v ≡ Less) same less
          | inr later ↦ o.trans x y z less (first_before y ys z s later)
        ]) s;
    same = λ z. ((λ h. h), λ h. h);
    count = refl;
  }

  placed-later : (x y : K) (ys zs : List K) → IsStrictlySortedBy R (y ∷ ys) → R y x ≡ Less → IsPlaced R x ys zs → IsPlaced R x (y ∷ ys) (y ∷ zs)
  placed-later x y ys zs s less rest = record {
    increasing = sorted-cons y zs
        (λ z h. elim (Contains-cons_cases x ys z ((rest.same z).1 h)) [
          | inl same ↦ subst (λ v. R y v ≡ Less) same less
          | inr later ↦ first_before y ys z s later
        ]) rest.increasing;
    same = λ z. (
      (λ h. elim (Contains-cons_cases x (y ∷ ys) z h) [
        | inl same ↦ Contains-cons y zs z ((rest.same z).0 (subst (Contains (x ∷ ys)) same (Contains-head x ys)))
        | inr others ↦ elim (Contains-cons_cases y ys z others) [
          | inl same ↦ subst (Contains (y ∷ zs)) same (Contains-head y zs)
          | inr later ↦ Contains-cons y zs z ((rest.same z).0 (Contains-cons x ys z later))
        ]
      ]),
      (λ h. elim (Contains-cons_cases y zs z h) [
        | inl same ↦ Contains-cons x (y ∷ ys) z (subst (Contains (y ∷ ys)) same (Contains-head y ys))
        | inr later ↦ elim (Contains-cons_cases x ys z ((rest.same z).1 later)) [
          | inl same ↦ subst (Contains (x ∷ y ∷ ys)) same (Contains-head x (y ∷ ys))
          | inr others ↦ Contains-cons x (y ∷ ys) z (Contains-cons y ys z others)
        ]
      ]),
    );
    count = ap suc rest.count;
  }

  placed-alone : (x : K) → IsPlaced R x [] (x ∷ [])
  unfolding IsStrictlySortedBy
  placed-alone x = record {
    increasing = (tt, tt);
    same = λ z. ((λ h. h), λ h. h);
    count = refl;
  }

  placed : (x : K) (ys : List K) → IsStrictlySortedBy R ys → (Contains ys x → ⊥) → (zs : List K) × IsPlaced R x ys zs
  placed x [] s new = (x ∷ [], placed-alone x)
  placed x (y ∷ ys) s new =
      elim (R x y) as (λ v. R x y ≡ v → (zs : List K) × IsPlaced R x (y ∷ ys) zs) [
        | Less ↦ λ e. (x ∷ y ∷ ys, placed-first x y ys s e)
        | Equal ↦ λ e. absurd (new (subst (Contains (y ∷ ys)) (sym (exact x y e)) (Contains-head y ys)))
        | Greater ↦ λ e.
            let rest = placed x ys (sorted_tail R y ys s) (λ h. new (Contains-cons y ys x h)) in
            (y ∷ rest.0, placed-later x y ys rest.0 s (o.antisymm y x ∙ ap ordering_reverse e) rest.1)
      ] refl

-- ---- monitors
-- the list has the instances of the monitors in order
pub record IsRanking {S : Type 0} (monitors : List (Stored S)) (ranking : List Binding) : Type 0 where
  pub increasing : IsStrictlySortedBy binding_cmp ranking
  pub same : (t : Binding) → HasInstance monitors t ↔ Contains ranking t
  pub count : length ranking ≡ length monitors

ranking-none : {S : Type 0} → IsRanking {S = S} [] []
unfolding IsStrictlySortedBy
ranking-none = record {
  increasing = tt;
  same = λ t. ((λ h. absurd (Contains-nil h.0 h.1)), λ h. absurd (Contains-nil t h));
  count = refl;
}

module _ {S : Type 0} (s : Stored S) (rest : List (Stored S)) where
  distinct-rest : AllPairs (λ r q. r.instance ≢ q.instance) (s ∷ rest) → AllPairs (λ r q. r.instance ≢ q.instance) rest
  distinct-rest h i j d l within = h (suc i) (suc j) d (omega arith) (omega arith)

  distinct-first : AllPairs (λ r q. r.instance ≢ q.instance) (s ∷ rest) → HasInstance rest s.instance → ⊥
  distinct-first h found =
      let place = found.1 in
      h 0 (suc place.0) found.0 (omega arith) (omega (arith, place.1)) (sym (ap (λ (x : Stored S). x.instance) place.2 ∙ found.2))

  ranking-more : (ranking longer : List Binding) → IsRanking rest ranking → IsPlaced binding_cmp s.instance ranking longer → IsRanking (s ∷ rest) longer
  ranking-more ranking longer ranked more = record {
    increasing = more.increasing;
    same = λ t. (
      (λ h. (more.same t).0 (elim (Contains-cons_cases s rest h.0 h.1) [
        | inl here ↦ subst (Contains (s.instance ∷ ranking)) (ap (λ (x : Stored S). x.instance) here ∙ h.2) (Contains-head s.instance ranking)
        | inr later ↦ Contains-cons s.instance ranking t ((ranked.same t).0 (h.0, later, h.2))
      ])),
      (λ h. elim (Contains-cons_cases s.instance ranking t ((more.same t).1 h)) [
        | inl same ↦ (s, Contains-head s rest, same)
        | inr later ↦ let r = (ranked.same t).1 later in (r.0, Contains-cons s rest r.0 r.1, r.2)
      ]),
    );
    count = more.count ∙ ap suc ranked.count;
  }

pub ranking_of : {S : Type 0} (monitors : List (Stored S)) → AllPairs (λ r s. r.instance ≢ s.instance) monitors → (ranking : List Binding) × IsRanking monitors ranking
ranking_of [] distinct = ([], ranking-none)
ranking_of (s ∷ rest) distinct =
    let ranked = ranking_of rest (distinct-rest s rest distinct) in
    let more = placed binding_cmp_total exact_bindings s.instance ranked.0 ranked.1.increasing (λ h. distinct-first s rest distinct ((ranked.1.same s.instance).1 h)) in
    (more.0, ranking-more s rest ranked.0 more.0 ranked.1 more.1)
