-- The places of charts.
use Rattle.std.proofs.Common.{ℕ, ◌≡◌, ◌<◌, ◌≤◌, ◌+◌, ◌-◌, ◌↔◌, ◌⊎◌, inl, inr, List, [], ◌∷◌, ◌++◌, Some, length, take, slice_get, Contains, Bool, IsTrue, refl, sym, ap, subst, ◌∙◌, arith, length-append}
use Rattle.std.specs.Prelude.{Any}
use Rattle.std.proofs.lemmas.List.{take_all, take-append-le, length-take-le}
use Rattle.std.proofs.lemmas.Option.{none-some, same_Some, slice_get_within}
use Rattle.jm_model.specs.declared.step.Letter.{Letter as LetterType}
use Rattle.jm_grammar.specs.declared.grammar.GrammarSymbol.TheVariants.{Letter}
use Rattle.jm_grammar.specs.Grammars.{GrammarDefinition}
use Rattle.jm_grammar.specs.Meanings.{IsWord, no_tree, leaf}
use Rattle.jm_earley.specs.declared.item.Item.{Item}
use Rattle.jm_earley.specs.declared.earley_set.EarleySet.{EarleySet}
use Rattle.jm_earley.specs.Items.{IsAwaited, at_start, IsItem, IsItemSet, IsWhole, symbol_after, advanced}
use Rattle.jm_earley.specs.Kept.{place_at, HasPlaceAt, AreBack, AreLinked}
use Rattle.jm_earley.specs.EarleySets.{AreEarlier}
use Rattle.jm_earley.specs.AwaitIndex.{AreWaiting}
use Rattle.jm_earley.specs.Charts.{ChartsDefinition, ChartDefinition, AreItemSets, IsPlaceOf, IsChartOf, IsChartWith}
use Rattle.jm_earley.specs.Growth.{Grows, IsAdvancedOver, AreAdvancedOver, IsPrediction, ArePredicted}
use Rattle.jm_earley.proofs.PlaceLemmas.{same_push}
use Rattle.jm_earley.proofs.KeptLemmas.{none_from}
use Rattle.jm_earley.proofs.ItemLemmas.{whole_is_word, word_is_whole, closure_exact, item_begins, item_over, made_kept}

module _ (g : GrammarDefinition) (word : List ℕ) where
  pub words_by_items : (items items' : List Item) (result : Bool) → items' ≡ items → IsItemSet g word items → IsTrue result ↔ Any (IsWhole g) items' → IsTrue result ↔ IsWord g word
  words_by_items items items' result same exact says = (
    λ yes. let found = says.0 yes in
        whole_is_word g word found.1 ((exact found.1).0 (subst (λ (l : List Item). Contains l found.1) same (found.0, found.2, found.3))) found.4,
    λ is_word.
        let whole = word_is_whole g word is_word in
        let there = subst (λ (l : List Item). Contains l whole.0) (sym same) ((exact whole.0).1 whole.1) in
        says.1 (there.0, whole.0, there.1, there.2, whole.2),
  )

  -- an item began no later than where it stands
  pub origin_within : (x : Item) → IsItem g word x → x.origin ≤ length word
  origin_within x item = omega (arith, item.origin, ap length item.word_is, length-append item.before item.spelled)

module _ (charts : ChartsDefinition) where
  abbrev g : GrammarDefinition
  g = charts.grammar

  -- the last place is that of the whole word
  pub last_place : (word : List ℕ) (chart : ChartDefinition) → IsChartOf charts word chart → (p : EarleySet) → slice_get chart.places (length chart.places - 1) ≡ Some p → IsPlaceOf charts word p
  last_place word chart of_word p at =
      let same : of_word.last ≡ p = same_Some of_word.last p (sym of_word.ends ∙ at) in
      let whole : take (length word) word ≡ word = take_all (length word) word (omega arith) in
      let is : IsPlaceOf charts word of_word.last = subst (λ (w : List ℕ). IsPlaceOf charts w of_word.last) whole (of_word.each (length word) of_word.last of_word.here).1 in
      subst (λ (q : EarleySet). IsPlaceOf charts word q) same is

  pub lists_are : (word : List ℕ) (chart : ChartDefinition) → IsChartOf charts word chart → AreWaiting g chart.places
  lists_are word chart of_word position p at = (of_word.each position p at).1.waiting

  -- ---- a new last place

  module _ (word : List ℕ) (earlier : List EarleySet) (position : ℕ) (first : List Item) (count : position ≡ length word)
      (each : (k : ℕ) (p : EarleySet) → place_at earlier k ≡ Some p → (k < length word) × IsPlaceOf charts (take k word) p)
      (closed : (k : ℕ) (p : EarleySet) → place_at earlier k ≡ Some p → (x : Item) → Contains p.items x → HasPlaceAt earlier x.origin)
      (linked : AreLinked earlier)
      (none : (length earlier ≡ 0) ↔ (length word ≡ 0))
      (begins : (x : Item) → Contains first x → (x.origin ≡ position) ⊎ HasPlaceAt earlier x.origin)
      (sound : (x : Item) → Contains first x → IsItem g word x)
      (scanned : (before : List ℕ) (a : LetterType) → word ≡ before ++ a.0 ∷ [] → (x : Item) → IsItem g before x → symbol_after g x ≡ Some (Letter a) → Contains first (advanced x))
      (begun : word ≡ [] → ArePredicted g 0 g.start first) where
    sets_are : AreItemSets g word earlier
    sets_are k p at = (each k p at).1.items

    back : AreBack earlier
    back k p at x there =
        let here = each k p at in
        let item = (here.1.items x).0 there in
        let short : length (take k word) ≡ k = length-take-le k word (omega (arith, here.0)) in
        omega (arith, origin_within g (take k word) x item, short)

    pub chart_follows : (chart : ChartDefinition) → IsChartWith charts earlier position first chart → IsChartOf charts word chart
    chart_follows chart made =
        let items = made.place.items in
        let from : (x : Item) → Contains items x → (x.origin ≡ position) ⊎ HasPlaceAt earlier x.origin =
        λ x there. made_kept g earlier position first closed begins (made.closure.made x there) in
        let covered : (x : Item) → Contains items x → x.origin < position → HasPlaceAt earlier x.origin =
        λ x there lt. elim (from x there) [ inl here ↦ absurd (omega (arith, lt, here)) | inr old ↦ old ] in
        let exact : IsItemSet g word items = closure_exact g word earlier position first items sets_are count made.closure covered sound scanned begun in
        let are : AreEarlier g charts.letter_sets word earlier = record {
          none = none;
          each = λ x item lt.
              let old = covered x ((exact x).1 item) (omega (arith, lt, count)) in
              (old.0, old.1, (each x.origin old.0 old.1).1.futures);
          past = λ k ge. none_from (place_at earlier k) (λ p at. absurd (omega (arith, ge, (each k p at).0)));
        } in
        let here : IsPlaceOf charts word made.place = record { items = exact; waiting = made.place_is.waits; futures = made.place_is.follows word exact are } in
        let follows = made.follows in
        record {
          last = made.place;
          ends = follows.ends;
          here = subst (λ (k : ℕ). place_at chart.places k ≡ Some made.place) (made.place_is.position_is ∙ count) follows.here;
          each = λ k p at. elim (follows.only k p at) [
            | inl old ↦ let known = each k p old in ((omega (arith, known.0)), known.1)
            | inr (end, same) ↦
                let whole : take k word ≡ word = take_all k word (omega (arith, end, made.place_is.position_is, count)) in (
                  (omega (arith, end, made.place_is.position_is, count)),
                  subst (λ (w : List ℕ). IsPlaceOf charts w p) (sym whole) (subst (λ (q : EarleySet). IsPlaceOf charts word q) (sym same) here),
                )
          ];
          closed = λ k p at x there. elim (follows.only k p at) [
            | inl old ↦ follows.closed back k p at old x there (closed k p old x there)
            | inr (end, same) ↦
                let mine : Contains items x = subst (λ (q : EarleySet). Contains q.items x) same there in
                elim (from x mine) [
                  | inl origin ↦
                      (made.place, subst (λ (k' : ℕ). place_at chart.places k' ≡ Some made.place) (made.place_is.position_is ∙ sym origin) follows.here)
                  | inr old ↦ follows.first x mine old
                ]
          ];
          linked = follows.linked linked;
        }

  -- ---- the empty word

  pub begun_chart : (start : ℕ) (earlier : List EarleySet) (nothing first : List Item) (chart : ChartDefinition) → start ≡ g.start → earlier ≡ [] → nothing ≡ []
      → Grows (IsPrediction g 0 start) nothing first → ArePredicted g 0 start first → IsChartWith charts earlier 0 first chart → IsChartOf charts [] chart
  begun_chart start earlier nothing first chart start_is none nothing_is grows all made =
      let predictions : Grows (IsPrediction g 0 g.start) [] first =
      subst (λ (l : List Item). Grows (IsPrediction g 0 g.start) l first) nothing_is (subst (λ (n : ℕ). Grows (IsPrediction g 0 n) nothing first) start_is grows) in
      let each : ArePredicted g 0 g.start first = subst (λ (n : ℕ). ArePredicted g 0 n first) start_is all in
      let prediction : (x : Item) → Contains first x → IsPrediction g 0 g.start x = λ x there. elim (predictions.only x there) [ inl nowhere ↦ absurd (omega (arith, nowhere.1)) | inr is ↦ is ] in
      chart_follows [] [] 0 first refl (λ k p at. absurd (none-some p at)) (λ k p at. absurd (none-some p at)) (λ number p q at. absurd (none-some p at)) ((λ h. refl), (λ h. refl))
      (λ x there. let (number, p, at, left, is) = prediction x there in inl (ap (λ (y : Item). y.origin) is))
      (λ x there.
      let (number, p, at, left, is) = prediction x there in
      subst (λ (y : Item). IsItem g [] y) (sym is) (item_begins g [] number p at (subst (λ (m : ℕ). IsAwaited g.productions g.start [] m) (sym left) at_start)))
      (λ before a e. absurd (no_push before a.0 e)) (λ e. each) chart
      (subst (λ (l : List EarleySet). IsChartWith charts l 0 first chart) none made)
    where
      no_push : (xs : List ℕ) (x : ℕ) → [] ≡ xs ++ x ∷ [] → ⊥
      no_push xs x e = absurd (omega (arith, ap length e, length-append xs (x ∷ [])))

  -- ---- one letter more

  module _ (word : List ℕ) (old : ChartDefinition) (of_word : IsChartOf charts word old) (letter : LetterType) (last : EarleySet)
      (at : slice_get old.places (length old.places - 1) ≡ Some last) where
    abbrev longer : List ℕ
    longer = word ++ letter.0 ∷ []

    last_is : IsPlaceOf charts word last
    last_is = last_place word old of_word last at

    longer_is : length longer ≡ length word + 1
    longer_is = omega (arith, length-append word (letter.0 ∷ []))

    old_each : (k : ℕ) (p : EarleySet) → place_at old.places k ≡ Some p → (k < length longer) × IsPlaceOf charts (take k longer) p
    old_each k p there =
        let known = of_word.each k p there in
        let same : take k longer ≡ take k word = take-append-le k word (letter.0 ∷ []) (omega (arith, known.0)) in
        ((omega (arith, known.0, longer_is)), subst (λ (w : List ℕ). IsPlaceOf charts w p) (sym same) known.1)

    same_last : of_word.last ≡ last
    same_last = same_Some of_word.last last (sym of_word.ends ∙ at)

    -- the last place is at the length of the word
    pub last_at : place_at old.places (length word) ≡ Some last
    last_at = of_word.here ∙ ap (λ (p : EarleySet). Some p) same_last

    pub grown_chart : (position : ℕ) (nothing first : List Item) (chart : ChartDefinition) → position ≡ length word + 1 → nothing ≡ []
        → Grows (IsAdvancedOver g last.items (Letter letter)) nothing first → AreAdvancedOver g last.items (Letter letter) first → IsChartWith charts old.places position first chart
        → IsChartOf charts longer chart
    grown_chart position nothing first chart position_is nothing_is grows all made =
        let advances : (x : Item) → Contains first x → IsAdvancedOver g last.items (Letter letter) x =
        λ x there. elim (grows.only x there) [
          | inl nowhere ↦ absurd (let none : Contains [] x = subst (λ (l : List Item). Contains l x) nothing_is nowhere in omega (arith, none.1))
          | inr is ↦ is
        ] in
        let within : length old.places - 1 < length old.places = slice_get_within old.places (length old.places - 1) last at in
        chart_follows longer old.places position first (omega (arith, position_is, longer_is)) old_each of_word.closed of_word.linked
        ((λ h. absurd (omega (arith, h, within))), (λ h. absurd (omega (arith, h, longer_is))))
        (λ x there.
        let (y, among, after, is) = advances x there in
        inr (subst (λ (z : Item). HasPlaceAt old.places z.origin) (sym is) (of_word.closed (length word) last last_at y among)))
        (λ x there.
        let (y, among, after, is) = advances x there in
        subst (λ (z : Item). IsItem g longer z) (sym is) (item_over g word (letter.0 ∷ []) longer y (Letter letter) ((last_is.items y).0 among) after (leaf letter no_tree) refl))
        (λ before a e y item after.
        let both = same_push word before letter.0 a.0 e in
        let same : a ≡ letter = λ i. record { 0 = sym both.1 i } in
        all y ((last_is.items y).1 (subst (λ (w : List ℕ). IsItem g w y) (sym both.0) item)) (after ∙ ap (λ (b : LetterType). Some (Letter b)) same))
        (λ e. absurd (omega (arith, ap length e, longer_is))) chart made
