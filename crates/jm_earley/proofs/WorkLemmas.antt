-- What is done to the items of a place, one by one.
use Rattle.std.proofs.Common.{ℕ, ◌≡◌, ◌<◌, ◌+◌, inl, inr, List, [], Some, None, length, slice_get, Contains, sym, ap, subst, ◌∙◌, arith}
use Rattle.std.proofs.lemmas.Bool.{cases_lt}
use Rattle.std.proofs.lemmas.Option.{same_Some, slice_get_within}
use Rattle.jm_model.specs.declared.step.Letter.{Letter as LetterType}
use Rattle.jm_grammar.specs.declared.grammar.GrammarSymbol.{GrammarSymbol}
use Rattle.jm_grammar.specs.declared.grammar.GrammarSymbol.TheVariants.{Letter, Nonterminal}
use Rattle.jm_grammar.specs.declared.grammar.Production.{Production}
use Rattle.jm_grammar.specs.Grammars.{GrammarDefinition}
use Rattle.jm_grammar.specs.Meanings.{Derives}
use Rattle.jm_earley.specs.declared.item.Item.{Item}
use Rattle.jm_earley.specs.declared.earley_set.EarleySet.{EarleySet}
use Rattle.jm_earley.specs.Items.{symbol_after, finished_left, advanced}
use Rattle.jm_earley.specs.Growth.{Grows, IsPrediction, ArePredicted, IsPredictedSet, IsStep, predicts, skips, IsWorked, IsMade, stepped}
use Rattle.jm_earley.proofs.PlaceLemmas.{Contains-place, place-Contains, place_of, past_end}
use Rattle.jm_earley.proofs.GrowthLemmas.{grows_then, grows_weaker, grows_contains}
use Rattle.jm_earley.proofs.ItemLemmas.{after_parts, finished_parts}

module _ (g : GrammarDefinition) where
  -- an item with a symbol after its dot is not finished
  pub not_finished : (x : Item) (s : GrammarSymbol) (n : ℕ) → symbol_after g x ≡ Some s → finished_left g x ≡ Some n → ⊥
  not_finished x s n after finished =
      let a = after_parts g x s after in
      let f = finished_parts g x n finished in
      let same : a.0 ≡ f.0 = same_Some a.0 f.0 (sym a.1 ∙ f.1) in
      let within = slice_get_within a.0.symbols x.dot s a.2 in
      let end : x.dot ≡ length a.0.symbols = subst (λ (p : Production). x.dot ≡ length p.symbols) (sym same) f.2 in
      omega (arith, within, end)

  module _ (P : Item → Type 0) where
    pub predicted_grows : (place n : ℕ) (a b : List Item) → Grows P a b → ArePredicted g place n a → ArePredicted g place n b
    predicted_grows place n a b grows all number p at left = grows_contains P a b (record { production = number; dot = 0; origin = place }) grows (all number p at left)

    pub predicted_set_grows : (place predicted : ℕ) (a b : List Item) → Grows P a b → IsPredictedSet g place predicted a → IsPredictedSet g place predicted b
    predicted_set_grows place predicted a b grows all n bit = predicted_grows place n a b grows (all n bit)

    pub worked_grows : (kept : List EarleySet) (place : ℕ) (x : Item) (a b : List Item) → Grows P a b → IsWorked g kept place a x → IsWorked g kept place b x
    worked_grows kept place x a b grows worked = record {
      predicted = λ n after. predicted_grows place n a b grows (worked.predicted n after);
      skipped = λ n after empty. grows_contains P a b (advanced x) grows (worked.skipped n after empty);
      completed = λ n from finished at y there after. grows_contains P a b (advanced y) grows (worked.completed n from finished at y there after);
    }

  -- the nonterminal is spelled by nothing, and the item is this one
  abbrev pub IsSkip : Item → ℕ → Item → Type 0
  IsSkip item n x = Derives g.productions n [] × (x ≡ advanced item)

  module _ (kept : List EarleySet) (place : ℕ) (item : Item) where
    pub nonterminal_grows : (n : ℕ) (a b d : List Item) → symbol_after g item ≡ Some (Nonterminal n) → Grows (IsPrediction g place n) a b → Grows (IsSkip item n) b d → Grows (IsStep g kept place item) a d
    nonterminal_grows n a b d after first second =
        let S = λ (x : Item). IsStep g kept place item x in
        grows_then S a b d (grows_weaker (IsPrediction g place n) S (λ x prediction. predicts n after prediction) a b first)
        (grows_weaker (IsSkip item n) S (λ x skip. skips n after skip.0 skip.1) b d second)

    pub nonterminal_worked : (n : ℕ) (b d : List Item) → symbol_after g item ≡ Some (Nonterminal n) → ArePredicted g place n b → Grows (IsSkip item n) b d
        → (Derives g.productions n [] → Contains d (advanced item)) → IsWorked g kept place d item
    nonterminal_worked n b d after all second skipped = record {
      predicted = λ m other. subst (λ (k : ℕ). ArePredicted g place k d) (same n m after other) (predicted_grows (IsSkip item n) place n b d second all);
      skipped = λ m other empty. skipped (subst (λ (k : ℕ). Derives g.productions k []) (sym (same n m after other)) empty);
      completed = λ m from finished. absurd (not_finished item (Nonterminal n) m after finished);
    }
      where
        same : (n m : ℕ) → symbol_after g item ≡ Some (Nonterminal n) → symbol_after g item ≡ Some (Nonterminal m) → n ≡ m
        same n m one two = let e : Nonterminal n ≡ Nonterminal m = same_Some (Nonterminal n) (Nonterminal m) (sym one ∙ two) in cc

    pub letter_worked : (a : LetterType) (items : List Item) → symbol_after g item ≡ Some (Letter a) → IsWorked g kept place items item
    letter_worked a items after = record {
      predicted = λ n other. absurd (clash n other);
      skipped = λ n other. absurd (clash n other);
      completed = λ n from finished. absurd (not_finished item (Letter a) n after finished);
    }
      where
        clash : (n : ℕ) → symbol_after g item ≡ Some (Nonterminal n) → ⊥
        clash n other = let e : Letter a ≡ Nonterminal n = same_Some (Letter a) (Nonterminal n) (sym after ∙ other) in absurd (cc)

  -- ---- the work so far

  module _ (kept : List EarleySet) (place : ℕ) (first : List Item) where
    abbrev pub AreWorked : ℕ → List Item → Type 0
    AreWorked number items = (k : ℕ) (x : Item) → k < number → slice_get items k ≡ Some x → IsWorked g kept place items x

    pub one_worked : (number : ℕ) (item : Item) (a b : List Item) → slice_get a number ≡ Some item → Grows (IsStep g kept place item) a b → IsWorked g kept place b item → AreWorked number a → AreWorked (number + 1) b
    one_worked number item a b at grows worked before k x lt here =
        let there = slice_get_within a number item at in
        elim (cases_lt k number) [
          | inl earlier ↦
              let old = place_of a k (omega (arith, there)) in
              let same : old.0 ≡ x = same_Some old.0 x (sym (grows.kept k old.0 old.1) ∙ here) in
              subst (λ (y : Item). IsWorked g kept place b y) same (worked_grows (IsStep g kept place item) kept place old.0 a b grows (before k old.0 earlier old.1))
          | inr later ↦
              let now : k ≡ number = omega (arith, later, lt) in
              let same : item ≡ x = same_Some item x (sym (grows.kept number item at) ∙ ap (λ j. slice_get b j) (sym now) ∙ here) in
              subst (λ (y : Item). IsWorked g kept place b y) same worked
        ]

    pub one_made : (number : ℕ) (item : Item) (a b : List Item) → slice_get a number ≡ Some item → Grows (IsStep g kept place item) a b
        → ((x : Item) → Contains a x → IsMade g kept place first x) → (x : Item) → Contains b x → IsMade g kept place first x
    one_made number item a b at grows before x there = elim (grows.only x there) [
      | inl old ↦ before x old
      | inr step ↦ stepped item x (before item (Contains-place a number item at)) step
    ]

    pub all_worked : (number : ℕ) (items : List Item) → slice_get items number ≡ None → AreWorked number items → (x : Item) → Contains items x → IsWorked g kept place items x
    all_worked number items end worked x there =
        let place = place-Contains items x there in
        let within = slice_get_within items place.0 x place.1 in
        worked place.0 x (omega (arith, within, past_end items number end)) place.1
