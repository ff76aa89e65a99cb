use Rattle.std.proofs.Common.{◌≡◌, inl, inr, List, [], ◌∷◌, length, sym, ◌∙◌, ap, subst}
use Rattle.std.specs.Prelude.{Contains, ◌↔◌}
use Rattle.std.specs.Cmp.{IsTotalOrder}
use Rattle.std.specs.Cmp.Lexicographic.{options_total}
use Rattle.std.specs.List.Sorted.{IsStrictlySortedBy}
use Rattle.std.specs.declared.cmp.Ordering.{Ordering}
use Rattle.std.specs.declared.cmp.Ordering.TheVariants.{Less}
use Rattle.std.proofs.lemmas.Cmp.{tied_itself, nat_cmp_total, lists_total, on_total, then_total}
use Rattle.std.proofs.lemmas.List.Elements.{All-from_recursion, All-contains}
use Rattle.std.proofs.lemmas.Map.Keys.{sorted_head, sorted_tail}
use Rattle.jm_model.specs.Bindings.{binding_cmp}
use Rattle.jm_model.specs.declared.firings.Firing.{Firing}
use Rattle.jm_model.specs.Meanings.{Meaning}
use Rattle.jm_semantics.specs.Answers.{firing_cmp}
use Rattle.jm_semantics.specs.Laws.{AnswerIsDetermined, KeptCountIsDetermined}
use Rattle.jm_semantics.proofs.ListLemmas.{Contains-nil, Contains-head, Contains-cons, Contains-cons_cases}

module _ {K : Type 0} {R : K → K → Ordering} (o : IsTotalOrder R) where
  below_itself : (x : K) → R x x ≡ Less → ⊥
  below_itself x h = let e = tied_itself o x in cc

  first_below : (x : K) (xs : List K) (y : K) → IsStrictlySortedBy R (x ∷ xs) → Contains xs y → R x y ≡ Less
  first_below x xs y s h =
      All-contains (λ z. R x z ≡ Less) xs y (All-from_recursion (λ z. R x z ≡ Less) xs (sorted_head R x xs s)) h

  -- the first of two sorted lists with the same members is the same
  same_first : (x : K) (xs : List K) (y : K) (ys : List K) → IsStrictlySortedBy R (x ∷ xs) → IsStrictlySortedBy R (y ∷ ys) → Contains (y ∷ ys) x → Contains (x ∷ xs) y → x ≡ y
  same_first x xs y ys s t h k =
      elim (Contains-cons_cases y ys x h) [
        | inl same ↦ sym same
        | inr later ↦ elim (Contains-cons_cases x xs y k) [
          | inl same ↦ same
          | inr after ↦ absurd (below_itself x (o.trans x y x (first_below x xs y s after) (first_below y ys x t later)))
        ]
      ]

  -- what the rest of one has, the rest of the other has
  rest_member : (x : K) (xs ys : List K) → IsStrictlySortedBy R (x ∷ xs) → (z : K) → (Contains (x ∷ xs) z → Contains (x ∷ ys) z) → Contains xs z → Contains ys z
  rest_member x xs ys s z to h =
      elim (Contains-cons_cases x ys z (to (Contains-cons x xs z h))) [
        | inl same ↦ absurd (below_itself x (subst (λ y. R x y ≡ Less) (sym same) (first_below x xs z s h)))
        | inr there ↦ there
      ]

  -- two strictly increasing lists with the same members are equal
  pub same_from_members : (xs ys : List K) → IsStrictlySortedBy R xs → IsStrictlySortedBy R ys → ((z : K) → (Contains xs z ↔ Contains ys z)) → xs ≡ ys
  same_from_members [] [] s t h = λ i. []
  same_from_members [] (y ∷ ys) s t h = absurd (Contains-nil y ((h y).1 (Contains-head y ys)))
  same_from_members (x ∷ xs) [] s t h = absurd (Contains-nil x ((h x).0 (Contains-head x xs)))
  same_from_members (x ∷ xs) (y ∷ ys) s t h =
      let first : x ≡ y = same_first x xs y ys s t ((h x).0 (Contains-head x xs)) ((h y).1 (Contains-head y ys)) in
      let t' : IsStrictlySortedBy R (x ∷ ys) = subst (λ z. IsStrictlySortedBy R (z ∷ ys)) (sym first) t in
      let h' : (z : K) → (Contains (x ∷ xs) z ↔ Contains (x ∷ ys) z) = subst (λ v. (z : K) → (Contains (x ∷ xs) z ↔ Contains (v ∷ ys) z)) (sym first) h in
      let rest : xs ≡ ys = same_from_members xs ys (sorted_tail R x xs s) (sorted_tail R x ys t')
      (λ z. (rest_member x xs ys s z (h' z).0, rest_member x ys xs t' z (h' z).1)) in
      cc

pub binding_cmp_total : IsTotalOrder binding_cmp
binding_cmp_total = lists_total (options_total nat_cmp_total)

pub firing_cmp_total : IsTotalOrder firing_cmp
firing_cmp_total = then_total (on_total (λ (f : Firing). f.instance) binding_cmp_total) (on_total (λ (f : Firing). f.handler) nat_cmp_total)

pub answer_is_determined-lem : (m : Meaning) → AnswerIsDetermined m
answer_is_determined-lem m trace a firings others f g =
    same_from_members firing_cmp_total firings others f.increasing g.increasing
    (λ x. (λ h. (g.exact x).1 ((f.exact x).0 h), λ h. (f.exact x).1 ((g.exact x).0 h)))

pub kept_count_is_determined-lem : (m : Meaning) → KeptCountIsDetermined m
kept_count_is_determined-lem m h a b k l =
    let same : k.kept ≡ l.kept = same_from_members binding_cmp_total k.kept l.kept k.increasing l.increasing
    (λ t. (λ c. (l.exact t).1 ((k.exact t).0 c), λ c. (k.exact t).1 ((l.exact t).0 c))) in
    k.count ∙ ap length same ∙ sym l.count
