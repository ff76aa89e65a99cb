-- How sets grow.
use Rattle.std.proofs.Common.{ℕ, ◌≡◌, ◌==◌, ◌<◌, ◌+◌, ◌⊎◌, inl, inr, Bool, true, ◌&&◌, List, [], ◌∷◌, Some, take, slice_get, Contains, refl, sym, ap, subst, ◌∙◌, arith}
use Rattle.std.specs.List.{list_any}
use Rattle.std.proofs.lemmas.Bool.{cases_Bool, and_parts, eqb-true}
use Rattle.std.proofs.lemmas.List.Elements.{Contains-push, Contains-push_cases}
use Rattle.indexmap.specs.IndexSet.{insert_key}
use Rattle.indexmap.proofs.CallerLemmas.{Contains-list_any}
use Rattle.std.proofs.lemmas.Bool.Decides.{eqb_tells}
use Rattle.std.proofs.lemmas.Option.{same_Some}
use Rattle.jm_grammar.specs.declared.grammar.GrammarSymbol.{GrammarSymbol}
use Rattle.jm_grammar.specs.declared.grammar.Production.{Production}
use Rattle.jm_grammar.specs.Grammars.{GrammarDefinition}
use Rattle.jm_earley.specs.declared.item.Item.{Item}
use Rattle.jm_earley.specs.Items.{symbol_after, advanced}
use Rattle.jm_earley.specs.Growth.{IsWithItem, Grows, IsAdvancedOver, AreAdvancedOver, IsPrediction}
use Rattle.jm_earley.proofs.PlaceLemmas.{slice_get-append, Contains-place, place-Contains, take_next}

-- what the test of two items says
pub same_item : (x y : Item) → ((x.production == y.production) && ((x.dot == y.dot) && (x.origin == y.origin))) ≡ true → x ≡ y
same_item x y e =
    let first = and_parts _ _ e in
    let second = and_parts _ _ first.1 in
    let production = eqb-true _ _ first.0 in
    let dot = eqb-true _ _ second.0 in
    let origin = eqb-true _ _ second.1 in
    λ i. record { production = production i; dot = dot i; origin = origin i }

-- an insertion adds the item, or finds it there
pub with_item_from_keys : (eq : Item → Item → Bool) → ((x y : Item) → eq x y ≡ true → x ≡ y) → (old new : List Item) (item : Item) → new ≡ insert_key eq old item → IsWithItem old item new
with_item_from_keys eq same old new item is = elim (cases_Bool (list_any (eq item) old)) [
  | inl found ↦ inl (Contains-list_any eq same old item found, is ∙ rw found refl)
  | inr absent ↦ inr (is ∙ rw absent refl)
]

module _ (P : Item → Type 0) where
  pub grows_same : (xs : List Item) → Grows P xs xs
  grows_same xs = record { kept = λ k x h. h; only = λ x h. inl h }

  pub grows_then : (a b c : List Item) → Grows P a b → Grows P b c → Grows P a c
  grows_then a b c first second = record {
    kept = λ k x h. second.kept k x (first.kept k x h);
    only = λ x h. elim (second.only x h) [ inl before ↦ first.only x before | inr new ↦ inr new ];
  }

  pub grows_with_item : (old new : List Item) (item : Item) → IsWithItem old item new → P item → Grows P old new
  grows_with_item old new item (inl there) made = subst (λ (l : List Item). Grows P old l) (sym there.1) (grows_same old)
  grows_with_item old new item (inr last) made = subst (λ (l : List Item). Grows P old l) (sym last) (record {
    kept = λ k x h. slice_get-append old (item ∷ []) k x h;
    only = λ x h. elim (Contains-push_cases old item x h) [ inl before ↦ inl before | inr is ↦ inr (subst P is made) ];
  })

  pub grows_contains : (a b : List Item) (x : Item) → Grows P a b → Contains a x → Contains b x
  grows_contains a b x grows there = let place = place-Contains a x there in Contains-place b place.0 x (grows.kept place.0 x place.1)

  pub grows_weaker : (Q : Item → Type 0) → ((x : Item) → P x → Q x) → (a b : List Item) → Grows P a b → Grows Q a b
  grows_weaker Q weaker a b grows = record {
    kept = grows.kept;
    only = λ x h. elim (grows.only x h) [ inl before ↦ inl before | inr new ↦ inr (weaker x new) ];
  }

-- an item that was added is there
pub item_is_there : (old new : List Item) (item : Item) → IsWithItem old item new → Contains new item
item_is_there old new item (inl there) = subst (λ (l : List Item). Contains l item) (sym there.1) there.0
item_is_there old new item (inr last) = subst (λ (l : List Item). Contains l item) (sym last) (Contains-push old item)

-- ---- one item more of a list is looked at

module _ (g : GrammarDefinition) (from : List Item) (symbol : GrammarSymbol) (old set : List Item) (i : ℕ) (x : Item) (at : slice_get from i ≡ Some x)
    (grows : Grows (IsAdvancedOver g from symbol) old set) (all : AreAdvancedOver g (take i from) symbol set) where
  next_cases : (y : Item) → Contains (take (i + 1) from) y → Contains (take i from) y ⊎ (x ≡ y)
  next_cases y h = Contains-push_cases (take i from) x y (subst (λ (l : List Item). Contains l y) (take_next from i x at) h)

  pub advance_one : (new : List Item) → symbol_after g x ≡ Some symbol → IsWithItem set (advanced x) new → Grows (IsAdvancedOver g from symbol) old new × AreAdvancedOver g (take (i + 1) from) symbol new
  advance_one new after added =
      let P = IsAdvancedOver g from symbol in
      let more : Grows (IsAdvancedOver g from symbol) set new = grows_with_item P set new (advanced x) added (x, Contains-place from i x at, after, refl) in (
        grows_then P old set new grows more,
        λ y there here. elim (next_cases y there) [
          | inl before ↦ grows_contains P set new (advanced y) more (all y before here)
          | inr is ↦ subst (λ (z : Item). Contains new (advanced z)) is (item_is_there set new (advanced x) added)
        ],
      )

  pub advance_none : (symbol_after g x ≡ Some symbol → ⊥) → AreAdvancedOver g (take (i + 1) from) symbol set
  advance_none other y there here = elim (next_cases y there) [
    | inl before ↦ all y before here
    | inr is ↦ absurd (other (subst (λ (z : Item). symbol_after g z ≡ Some symbol) (sym is) here))
  ]

-- ---- one production more is looked at

module _ (g : GrammarDefinition) (place n : ℕ) (old set : List Item) (i : ℕ) (q : Production) (at : slice_get g.productions i ≡ Some q)
    (grows : Grows (IsPrediction g place n) old set) where
  abbrev pub AreBegun : ℕ → List Item → Type 0
  AreBegun end items =
      (k : ℕ) (p : Production) → k < end → slice_get g.productions k ≡ Some p → p.left ≡ n → Contains items (record { production = k; dot = 0; origin = place })

  pub begin_one : (new : List Item) → AreBegun i set → q.left ≡ n → IsWithItem set (record { production = i; dot = 0; origin = place }) new → Grows (IsPrediction g place n) old new × AreBegun (i + 1) new
  begin_one new all left added =
      let P = IsPrediction g place n in
      let item : Item = record { production = i; dot = 0; origin = place } in
      let more : Grows (IsPrediction g place n) set new = grows_with_item P set new item added (i, q, at, left, refl) in (
        grows_then P old set new grows more,
        λ k p lt there is. elim (eqb_tells k i) [
          | inl same ↦ subst (λ (j : ℕ). Contains new (record { production = j; dot = 0; origin = place })) (sym same.1) (item_is_there set new item added)
          | inr other ↦ grows_contains P set new (record { production = k; dot = 0; origin = place }) more (all k p (omega (arith, other.1)) there is)
        ],
      )

  pub begin_none : AreBegun i set → (q.left ≡ n → ⊥) → AreBegun (i + 1) set
  begin_none all other k p lt there is = elim (eqb_tells k i) [
    | inl same ↦ absurd (other (subst (λ (r : Production). r.left ≡ n) (same_Some p q (sym there ∙ ap (λ j. slice_get g.productions j) same.1 ∙ at)) is))
    | inr differs ↦ all k p (omega (arith, differs.1)) there is
  ]
