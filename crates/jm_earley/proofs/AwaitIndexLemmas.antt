-- The items of a place by the nonterminal that they await.
use Rattle.std.proofs.Common.{ℕ, zero, suc, ◌≡◌, ◌≢◌, ◌<◌, ◌+◌, ◌↔◌, ◌⊎◌, inl, inr, List, [], ◌∷◌, ◌++◌, Some, None, length, take, map, get_or, set, slice_get, Contains, refl, sym, subst, ◌∙◌, arith}
use Rattle.std.proofs.lemmas.Bool.Decides.{eqb_tells}
use Rattle.std.proofs.lemmas.List.{length-map, map-set, get_or-set_same, get_or-set_other}
use Rattle.std.proofs.lemmas.List.Elements.{Contains-push, Contains-push_cases, Contains-append_left}
use Rattle.std.proofs.lemmas.Option.{none-some, same_Some}
use Rattle.jm_model.specs.declared.step.Letter.{Letter as LetterType}
use Rattle.jm_grammar.specs.declared.grammar.GrammarSymbol.TheVariants.{Letter, Nonterminal}
use Rattle.jm_grammar.specs.Grammars.{GrammarDefinition}
use Rattle.jm_earley.specs.declared.item.Item.{Item}
use Rattle.jm_earley.specs.declared.earley_set.EarleySet.{EarleySet}
use Rattle.jm_earley.specs.Kept.{place_at}
use Rattle.jm_earley.specs.Items.{symbol_after, finished_left}
use Rattle.jm_earley.specs.Growth.{Grows, IsAdvancedOver, AreAdvancedOver, completes, IsWorked}
use Rattle.jm_earley.specs.AwaitIndex.{IsEmpty, IsWaiting, AreWaiting, IsStepOver}
use Rattle.jm_earley.proofs.PlaceLemmas.{take_next}
use Rattle.jm_earley.proofs.GrowthLemmas.{grows_weaker}

-- an empty list more
pub empty_more : {X : Type 0} (f : X → List Item) (xs : List X) (x : X) → f x ≡ [] → (j : ℕ) → get_or (map f (xs ++ x ∷ [])) j [] ≡ get_or (map f xs) j []
empty_more f [] x none zero = none
empty_more f [] x none (suc j) = refl
empty_more f (y ∷ xs) x none zero = refl
empty_more f (y ∷ xs) x none (suc j) = empty_more f xs x none j

module _ {X : Type 0} (f : X → List Item) (xs : List X) (i : ℕ) (x : X) where
  pub written_here : i < length xs → get_or (map f (set xs i x)) i [] ≡ f x
  written_here lt = rw (map-set f xs i x) (get_or-set_same (map f xs) i (f x) [] (omega (arith, length-map xs f)))

  pub written_elsewhere : (j : ℕ) → j ≢ i → get_or (map f (set xs i x)) j [] ≡ get_or (map f xs) j []
  written_elsewhere j other = rw (map-set f xs i x) (get_or-set_other (map f xs) i j (f x) [] other)

module _ (g : GrammarDefinition) where
  same_nonterminal : (x : Item) (n m : ℕ) → symbol_after g x ≡ Some (Nonterminal n) → symbol_after g x ≡ Some (Nonterminal m) → n ≡ m
  same_nonterminal x n m one two = let e : Nonterminal n ≡ Nonterminal m = same_Some (Nonterminal n) (Nonterminal m) (sym one ∙ two) in cc

  pub not_a_letter : (x : Item) (a : LetterType) (n : ℕ) → symbol_after g x ≡ Some (Letter a) → symbol_after g x ≡ Some (Nonterminal n) → ⊥
  not_a_letter x a n one two = let e : Letter a ≡ Nonterminal n = same_Some (Letter a) (Nonterminal n) (sym one ∙ two) in absurd (cc)

  -- the lists after an item is added to that of the nonterminal that it awaits, if it does
  abbrev pub IsWithWaiting : List (List Item) → Item → List (List Item) → Type 0
  IsWithWaiting old x new = (n : ℕ) (y : Item) → Contains (get_or new n []) y ↔ (Contains (get_or old n []) y ⊎ ((x ≡ y) × (symbol_after g x ≡ Some (Nonterminal n))))

  -- no item yet
  pub waiting_none : (lists : List (List Item)) → IsEmpty lists → IsWaiting g [] lists
  waiting_none lists empty n x = (
    λ there. absurd (let none : Contains [] x = subst (λ (l : List Item). Contains l x) (empty n) there in omega (arith, none.1)),
    λ (there, after). absurd (omega (arith, there.1)),
  )

  -- an item that awaits no nonterminal
  pub waiting_same : (lists : List (List Item)) (x : Item) → ((n : ℕ) → symbol_after g x ≡ Some (Nonterminal n) → ⊥) → IsWithWaiting lists x lists
  waiting_same lists x other n y = (λ there. inl there, λ either. elim either [ inl there ↦ there | inr (is, after) ↦ absurd (other n after) ])

  -- an item that awaits one
  pub waiting_more : (lists new : List (List Item)) (x : Item) (n : ℕ) → symbol_after g x ≡ Some (Nonterminal n) → get_or new n [] ≡ get_or lists n [] ++ x ∷ []
      → ((m : ℕ) → m ≢ n → get_or new m [] ≡ get_or lists m []) → IsWithWaiting lists x new
  waiting_more lists new x n after here others m y = elim (eqb_tells m n) [
    | inl same ↦ subst (λ (k : ℕ). Contains (get_or new k []) y ↔ (Contains (get_or lists k []) y ⊎ ((x ≡ y) × (symbol_after g x ≡ Some (Nonterminal k))))) (sym same.1) (
      λ there. elim (Contains-push_cases (get_or lists n []) x y (subst (λ (l : List Item). Contains l y) here there)) [ inl old ↦ inl old | inr is ↦ inr (is, after) ],
      λ either. subst (λ (l : List Item). Contains l y) (sym here) (elim either [
        | inl old ↦ Contains-append_left (get_or lists n []) (x ∷ []) y old
        | inr (is, awaits) ↦ subst (λ (z : Item). Contains (get_or lists n [] ++ x ∷ []) z) is (Contains-push (get_or lists n []) x)
      ]),
    )
    | inr differs ↦ (
      λ there. inl (subst (λ (l : List Item). Contains l y) (others m differs.1) there),
      λ either. elim either [
        | inl old ↦ subst (λ (l : List Item). Contains l y) (sym (others m differs.1)) old
        | inr (is, awaits) ↦ absurd (differs.1 (same_nonterminal x m n awaits after))
      ],
    )
  ]

  -- one item more
  pub waiting_next : (items : List Item) (lists new : List (List Item)) (i : ℕ) (x : Item) → slice_get items i ≡ Some x → IsWaiting g (take i items) lists → IsWithWaiting lists x new → IsWaiting g (take (i + 1) items) new
  waiting_next items lists new i x at before added n y =
      let longer = take_next items i x at in (
        λ there. elim ((added n y).0 there) [
          | inl old ↦ let known = (before n y).0 old in (subst (λ (l : List Item). Contains l y) (sym longer) (Contains-append_left (take i items) (x ∷ []) y known.0), known.1)
          | inr (is, after) ↦ subst (λ (z : Item). Contains (take (i + 1) items) z × (symbol_after g z ≡ Some (Nonterminal n))) is
              (subst (λ (l : List Item). Contains l x) (sym longer) (Contains-push (take i items) x), after)
        ],
        λ (there, awaits). (added n y).1 (elim (Contains-push_cases (take i items) x y (subst (λ (l : List Item). Contains l y) longer there)) [
          | inl old ↦ inl ((before n y).1 (old, awaits))
          | inr is ↦ inr (is, subst (λ (z : Item). symbol_after g z ≡ Some (Nonterminal n)) (sym is) awaits)
        ]),
      )

  -- ---- completions

  module _ (kept : List EarleySet) (place : ℕ) (x : Item) where
    module _ (n : ℕ) (from : EarleySet) (finished : finished_left g x ≡ Some n) (there : place_at kept x.origin ≡ Some from) (old new : List Item) where
      pub completes_over : Grows (IsAdvancedOver g (get_or from.waiting n []) (Nonterminal n)) old new → Grows (IsStepOver g kept place x) old new
      completes_over grows = grows_weaker (IsAdvancedOver g (get_or from.waiting n []) (Nonterminal n)) (IsStepOver g kept place x) (λ made (y, among, after, is) are.
          let known = (are x.origin from there n y).0 among in
          completes n from finished there (y, known.0, after, is)) old new grows

      pub completes_worked : symbol_after g x ≡ None → AreAdvancedOver g (get_or from.waiting n []) (Nonterminal n) new → AreWaiting g kept → IsWorked g kept place new x
      completes_worked end all are = record {
        predicted = λ m after. absurd (none-some (Nonterminal m) (sym end ∙ after));
        skipped = λ m after. absurd (none-some (Nonterminal m) (sym end ∙ after));
        completed = λ m other also at y among after.
            let same : m ≡ n = same_Some m n (sym also ∙ finished) in
            let place_same : other ≡ from = same_Some other from (sym at ∙ there) in
            let inside : Contains from.items y = subst (λ (p : EarleySet). Contains p.items y) place_same among in
            let awaits : symbol_after g y ≡ Some (Nonterminal n) = subst (λ (k : ℕ). symbol_after g y ≡ Some (Nonterminal k)) same after in
            all y ((are x.origin from there n y).1 (inside, awaits)) awaits;
      }
