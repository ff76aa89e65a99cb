-- A set that is closed under the rules has exactly the items of the word: each step keeps what an item is, and each item is reached.
use Rattle.std.proofs.Common.{ℕ, ◌≡◌, ◌==◌, ◌<◌, ◌+◌, ◌⊎◌, inl, inr, List, [], ◌∷◌, ◌++◌, Some, length, slice_get, take, drop, Contains, refl, sym, ap, subst, ◌∙◌, arith, append_assoc, append-nil, length-append}
use Rattle.std.proofs.lemmas.Bool.{eqb-true}
use Rattle.std.proofs.lemmas.Bool.Decides.{eqb_tells}
use Rattle.std.proofs.lemmas.List.{take_all, take_at, take-append-drop, length-take-le}
use Rattle.std.proofs.lemmas.Option.{same_Some, slice_get_within, option_and_then_some, cond_some}
use Rattle.jm_model.specs.declared.step.Letter.{Letter as LetterType}
use Rattle.jm_grammar.specs.declared.grammar.GrammarSymbol.{GrammarSymbol}
use Rattle.jm_grammar.specs.declared.grammar.GrammarSymbol.TheVariants.{Letter, Nonterminal}
use Rattle.jm_grammar.specs.declared.grammar.Production.{Production}
use Rattle.jm_grammar.specs.Grammars.{GrammarDefinition}
use Rattle.jm_grammar.specs.Meanings.{Trees, no_tree, leaf, node, Derives, IsWord}
use Rattle.jm_grammar.proofs.RoundLemmas.{trees_append}
use Rattle.jm_earley.specs.declared.item.Item.{Item}
use Rattle.jm_earley.specs.declared.earley_set.EarleySet.{EarleySet}
use Rattle.jm_earley.specs.Items.{IsAwaited, at_start, inside, IsItem, IsItemSet, symbol_after, finished_left, advanced, IsWhole}
use Rattle.jm_earley.specs.Growth.{IsAdvancedOver, IsPrediction, ArePredicted, IsStep, predicts, skips, completes, IsWorked, IsMade, given, stepped, IsClosure}
use Rattle.jm_earley.specs.Kept.{place_at, HasPlaceAt}
use Rattle.jm_earley.specs.Charts.{AreItemSets}
use Rattle.jm_earley.proofs.PlaceLemmas.{Contains-place, place-Contains, split_at, take_next, place_behind, place_from_drop}

module _ (g : GrammarDefinition) where
  -- an item of a production with nothing spelled
  abbrev pub begins : ℕ → ℕ → Item
  begins number place = record { production = number; dot = 0; origin = place }

  abbrev pub at_dot : Item → ℕ → Item
  at_dot x dot = record x { dot = dot }

  -- ---- what stands after a dot

  pub after_parts : (x : Item) (s : GrammarSymbol) → symbol_after g x ≡ Some s → (p : Production) × (slice_get g.productions x.production ≡ Some p) × (slice_get p.symbols x.dot ≡ Some s)
  after_parts x s h = option_and_then_some (λ (p : Production). slice_get p.symbols x.dot) (slice_get g.productions x.production) s h (λ p at here. (p, at, here))

  pub after_from : (x : Item) (p : Production) (s : GrammarSymbol) → slice_get g.productions x.production ≡ Some p → slice_get p.symbols x.dot ≡ Some s → symbol_after g x ≡ Some s
  after_from x p s at here = rw at here

  pub finished_parts : (x : Item) (n : ℕ) → finished_left g x ≡ Some n → (p : Production) × (slice_get g.productions x.production ≡ Some p) × (x.dot ≡ length p.symbols) × (p.left ≡ n)
  finished_parts x n h = option_and_then_some _ (slice_get g.productions x.production) n h
      (λ p at here. let both = cond_some (x.dot == length p.symbols) p.left n here in (p, at, eqb-true _ _ both.0, both.1))

  pub finished_from : (x : Item) (p : Production) → slice_get g.productions x.production ≡ Some p → x.dot ≡ length p.symbols → finished_left g x ≡ Some p.left
  finished_from x p at end = rw at (elim (eqb_tells x.dot (length p.symbols)) [ inl same ↦ rw (same.0) refl | inr differs ↦ absurd (differs.1 end) ])

  -- ---- what items are, step by step

  -- an item advanced over a symbol that spells what comes next
  pub item_over : (before first word : List ℕ) (x : Item) (s : GrammarSymbol) → IsItem g before x → symbol_after g x ≡ Some s → Trees g.productions (s ∷ []) first → word ≡ before ++ first → IsItem g word (advanced x)
  item_over before first word x s item after one is =
      let parts = after_parts x s after in
      let same : parts.0 ≡ item.production = same_Some parts.0 item.production (sym parts.1 ∙ item.found) in
      let here : slice_get item.production.symbols x.dot ≡ Some s = subst (λ (p : Production). slice_get p.symbols x.dot ≡ Some s) same parts.2 in
      let within = slice_get_within item.production.symbols x.dot s here in
      record {
        production = item.production;
        found = item.found;
        dot = omega (arith, within);
        before = item.before;
        spelled = item.spelled ++ first;
        word_is = is ∙ ap (λ (l : List ℕ). l ++ first) item.word_is ∙ append_assoc item.before item.spelled first;
        origin = item.origin;
        awaited = item.awaited;
        trees = subst (λ (l : List GrammarSymbol). Trees g.productions l (item.spelled ++ first)) (sym (take_next item.production.symbols x.dot s here)) (trees_append g.productions (s ∷ []) first item.trees one);
      }

  -- a production of an awaited nonterminal begins
  pub item_begins : (word : List ℕ) (number : ℕ) (p : Production) → slice_get g.productions number ≡ Some p → IsAwaited g.productions g.start word p.left → IsItem g word (begins number (length word))
  item_begins word number p at awaited = record {
    production = p;
    found = at;
    dot = omega arith;
    before = word;
    spelled = [];
    word_is = sym (append-nil word);
    origin = refl;
    awaited = awaited;
    trees = no_tree;
  }

  -- what an item awaits is awaited after the word
  pub item_awaits : (word : List ℕ) (x : Item) (n : ℕ) → IsItem g word x → symbol_after g x ≡ Some (Nonterminal n) → IsAwaited g.productions g.start word n
  item_awaits word x n item after =
      let parts = after_parts x (Nonterminal n) after in
      let same : parts.0 ≡ item.production = same_Some parts.0 item.production (sym parts.1 ∙ item.found) in
      let here : slice_get item.production.symbols x.dot ≡ Some (Nonterminal n) = subst (λ (p : Production). slice_get p.symbols x.dot ≡ Some (Nonterminal n)) same parts.2 in
      inside item.before item.spelled word item.production (take x.dot item.production.symbols) n (drop (x.dot + 1) item.production.symbols) item.awaited
      (Contains-place g.productions x.production item.production item.found) (split_at item.production.symbols x.dot (Nonterminal n) here) item.trees item.word_is

  pub item_predicted : (word : List ℕ) (x : Item) (n number : ℕ) (p : Production) → IsItem g word x → symbol_after g x ≡ Some (Nonterminal n) → slice_get g.productions number ≡ Some p → p.left ≡ n → IsItem g word (begins number (length word))
  item_predicted word x n number p item after at left =
      item_begins word number p at (subst (λ (m : ℕ). IsAwaited g.productions g.start word m) (sym left) (item_awaits word x n item after))

  -- a finished item's left side spells what lies between its origin and its place
  pub item_derives : (word : List ℕ) (x : Item) (n : ℕ) → IsItem g word x → finished_left g x ≡ Some n → (before spelled : List ℕ) × (word ≡ before ++ spelled) × (length before ≡ x.origin) × Derives g.productions n spelled
  item_derives word x n item finished =
      let parts = finished_parts x n finished in
      let same : parts.0 ≡ item.production = same_Some parts.0 item.production (sym parts.1 ∙ item.found) in
      let end : x.dot ≡ length item.production.symbols = subst (λ (p : Production). x.dot ≡ length p.symbols) same parts.2 in
      let left : item.production.left ≡ n = subst (λ (p : Production). p.left ≡ n) same parts.3 in
      let whole : take x.dot item.production.symbols ≡ item.production.symbols = take_all x.dot item.production.symbols (omega (arith, end)) in
      let inner = subst (λ (l : List GrammarSymbol). Trees g.productions l item.spelled) whole item.trees in (
        item.before,
        item.spelled,
        item.word_is,
        item.origin,
        subst (λ (m : ℕ). Derives g.productions m item.spelled) left
            (node item.production.left item.production.symbols item.spelled [] (Contains-place g.productions x.production item.production item.found) (sym (append-nil item.spelled)) inner no_tree),
      )

  -- ---- each step keeps what an item is

  module _ (word : List ℕ) (kept : List EarleySet) (place : ℕ) (exact : AreItemSets g word kept) (count : place ≡ length word) where
    prediction_sound : (x : Item) (n : ℕ) (made : Item) → IsItem g word x → symbol_after g x ≡ Some (Nonterminal n) → IsPrediction g place n made → IsItem g word made
    prediction_sound x n made item after (number, p, at, left, is) =
        subst (λ (y : Item). IsItem g word y) (sym (is ∙ ap (λ k. begins number k) count)) (item_predicted word x n number p item after at left)

    completion_sound : (x : Item) (n : ℕ) (from : EarleySet) (made : Item) → IsItem g word x → finished_left g x ≡ Some n → place_at kept x.origin ≡ Some from → IsAdvancedOver g from.items (Nonterminal n) made → IsItem g word made
    completion_sound x n from made item finished at (y, there, after, is) =
        let d = item_derives word x n item finished in
        let front : take x.origin word ≡ d.0 = ap (λ (l : List ℕ). take x.origin l) d.2 ∙ take_at d.0 d.1 x.origin d.3 in
        let waiting : IsItem g d.0 y = subst (λ (l : List ℕ). IsItem g l y) front ((exact x.origin from at y).0 there) in
        subst (λ (z : Item). IsItem g word z) (sym is) (item_over d.0 d.1 word y (Nonterminal n) waiting after d.4 d.2)

    pub step_sound : (x made : Item) → IsItem g word x → IsStep g kept place x made → IsItem g word made
    step_sound x made item (predicts n after prediction) = prediction_sound x n made item after prediction
    step_sound x made item (skips n after empty is) =
        subst (λ (z : Item). IsItem g word z) (sym is) (item_over word [] word x (Nonterminal n) item after empty (sym (append-nil word)))
    step_sound x made item (completes n from finished at over) = completion_sound x n from made item finished at over

    pub made_sound : (first : List Item) → ((x : Item) → Contains first x → IsItem g word x) → {x : Item} → IsMade g kept place first x → IsItem g word x
    made_sound first sound (given x there) = sound x there
    made_sound first sound (stepped x made before step) = step_sound x made (made_sound first sound before) step

    -- ---- each item is reached

    module _ (items : List Item) (worked : (x : Item) → Contains items x → IsWorked g kept place items x)
        (covered : (x : Item) → Contains items x → x.origin < place → HasPlaceAt kept x.origin)
        (scanned : (before : List ℕ) (a : LetterType) → word ≡ before ++ a.0 ∷ [] → (x : Item) → IsItem g before x → symbol_after g x ≡ Some (Letter a) → Contains items (advanced x))
        (begun : word ≡ [] → ArePredicted g 0 g.start items) where
      -- an item before symbols that spell the rest of the word is there with all of them before its dot; at once, where they spell nothing
      abbrev Reaches : List GrammarSymbol → List ℕ → Type 0
      Reaches symbols spelled =
          (x : Item) (before : List ℕ) (p : Production) (back : List GrammarSymbol) → slice_get g.productions x.production ≡ Some p → drop x.dot p.symbols ≡ symbols ++ back
          → IsItem g before x → word ≡ before ++ spelled → (spelled ≡ [] → Contains items x) → (dot : ℕ) → dot ≡ x.dot + length symbols → Contains items (at_dot x dot)

      over_node : (n : ℕ) (below : List GrammarSymbol) (first : List ℕ) → Contains g.productions (record { left = n; symbols = below }) → Trees g.productions below first → Reaches below first
          → (x : Item) (before : List ℕ) → IsItem g before x → symbol_after g x ≡ Some (Nonterminal n) → word ≡ before ++ first → (first ≡ [] → Contains items x) → Contains items (advanced x)
      over_node n below [] there inner reaches x before item after is here =
          (worked x (here refl)).skipped n after (node n below [] [] there refl inner no_tree)
      over_node n below (c ∷ cs) there inner reaches x before item after is here =
          let first = c ∷ cs in
          let q : Production = record { left = n; symbols = below } in
          let long : length word ≡ length before + length (c ∷ cs) = ap length is ∙ length-append before (c ∷ cs) in
          let lt : length before < place = omega (arith, long, count) in
          let front : take (length before) word ≡ before = ap (λ (l : List ℕ). take (length before) l) is ∙ take_at before (c ∷ cs) (length before) refl in
          let number = place-Contains g.productions q there in
          let y = begins number.0 (length before) in
          let y_item = item_predicted before x n number.0 q item after number.1 refl in
          let last : Contains items (at_dot y (length below)) =
          reaches y before q [] number.1 (sym (append-nil below)) y_item is (λ e. absurd (cc)) (length below) (omega arith) in
          let from = covered (at_dot y (length below)) last lt in
          let in_from : Contains from.0.items x = (exact (length before) from.0 from.1 x).1 (subst (λ (l : List ℕ). IsItem g l x) (sym front) item) in
          (worked (at_dot y (length below)) last).completed n from.0 (finished_from (at_dot y (length below)) q number.1 refl) from.1 x in_from after

      pub reach : {symbols : List GrammarSymbol} {spelled : List ℕ} → Trees g.productions symbols spelled → Reaches symbols spelled
      reach no_tree x before p back at rest item is here dot e =
          subst (λ (d : ℕ). Contains items (at_dot x d)) (let same : x.dot ≡ dot = omega (arith, e) in same) (here refl)
      reach (leaf {symbols = symbols} {word = others} a trees) x before p back at rest item is here dot e =
          let behind = place_from_drop p.symbols x.dot (Letter a) (symbols ++ back) rest in
          let after = after_from x p (Letter a) at behind.0 in
          let next : IsItem g (before ++ a.0 ∷ []) (advanced x) = item_over before (a.0 ∷ []) (before ++ a.0 ∷ []) x (Letter a) item after (leaf a no_tree) refl in
          let split : word ≡ (before ++ a.0 ∷ []) ++ others = is ∙ sym (append_assoc before (a.0 ∷ []) others) in
          reach trees (advanced x) (before ++ a.0 ∷ []) p back at behind.1 next split
          (λ empty. scanned before a (is ∙ ap (λ (l : List ℕ). before ++ a.0 ∷ l) empty) x item after) dot (omega (arith, e))
      reach (node {symbols = symbols} n below first others there cut inner trees) x before p back at rest item is here dot e =
          let behind = place_from_drop p.symbols x.dot (Nonterminal n) (symbols ++ back) rest in
          let after = after_from x p (Nonterminal n) at behind.0 in
          let derived : Derives g.productions n first = node n below first [] there (sym (append-nil first)) inner no_tree in
          let next : IsItem g (before ++ first) (advanced x) = item_over before first (before ++ first) x (Nonterminal n) item after derived refl in
          let split : word ≡ (before ++ first) ++ others = is ∙ ap (λ (l : List ℕ). before ++ l) cut ∙ sym (append_assoc before first others) in
          reach trees (advanced x) (before ++ first) p back at behind.1 next split
          (λ empty. over_node n below first there inner (reach inner) x before item after
          (split ∙ ap (λ (l : List ℕ). (before ++ first) ++ l) empty ∙ append-nil (before ++ first))
          (λ none. here (cut ∙ ap (λ (l : List ℕ). l ++ others) none ∙ empty)))
          dot (omega (arith, e))

      -- the productions of what is awaited after the word begin there
      predicted_at : {before : List ℕ} {n : ℕ} → IsAwaited g.productions g.start before n → before ≡ word → ArePredicted g (length word) n items
      predicted_at at_start e = subst (λ (k : ℕ). ArePredicted g k g.start items) (ap length e) (begun (sym e))
      predicted_at (inside before spelled whole p front n back awaited there split trees is) e =
          let number = place-Contains g.productions p there in
          let y = begins number.0 (length before) in
          let y_item = item_begins before number.0 p number.1 awaited in
          let x = at_dot y (length front) in
          let held : Contains items x = reach trees y before p (Nonterminal n ∷ back) number.1 split y_item (sym e ∙ is)
          (λ empty. let same : before ≡ word = sym (append-nil before) ∙ ap (λ (l : List ℕ). before ++ l) (sym empty) ∙ sym is ∙ e in
          subst (λ (k : ℕ). Contains items (begins number.0 k)) (sym (ap length same)) (predicted_at awaited same number.0 p number.1 refl))
          (length front) (omega arith) in
          let after : symbol_after g x ≡ Some (Nonterminal n) = after_from x p (Nonterminal n) number.1 (place_behind p.symbols front (Nonterminal n) back split) in
          subst (λ (k : ℕ). ArePredicted g k n items) count ((worked x held).predicted n after)

      pub complete : (x : Item) → IsItem g word x → Contains items x
      complete x item =
          let y = begins x.production (length item.before) in
          let y_item = item_begins item.before x.production item.production item.found item.awaited in
          let there : Contains items (at_dot y x.dot) = reach item.trees y item.before item.production (drop x.dot item.production.symbols) item.found
          (sym (take-append-drop x.dot item.production.symbols)) y_item item.word_is
          (λ empty. let same : item.before ≡ word = sym (append-nil item.before) ∙ ap (λ (l : List ℕ). item.before ++ l) (sym empty) ∙ sym item.word_is in
          subst (λ (k : ℕ). Contains items (begins x.production k)) (sym (ap length same)) (predicted_at item.awaited same x.production item.production item.found refl))
          x.dot (omega (arith, length-take-le x.dot item.production.symbols item.dot)) in
          subst (λ (k : ℕ). Contains items (record x { origin = k })) item.origin there

  -- ---- the items of a place

  -- an item that is made began here, or at a place that is kept
  module _ (kept : List EarleySet) (place : ℕ) (first : List Item) (closed : (position : ℕ) (p : EarleySet) → place_at kept position ≡ Some p → (x : Item) → Contains p.items x → HasPlaceAt kept x.origin)
      (begins_kept : (x : Item) → Contains first x → (x.origin ≡ place) ⊎ HasPlaceAt kept x.origin) where
    step_kept : (x made : Item) → (x.origin ≡ place) ⊎ HasPlaceAt kept x.origin → IsStep g kept place x made → (made.origin ≡ place) ⊎ HasPlaceAt kept made.origin
    step_kept x made from (predicts n after (number, p, at, left, is)) = inl (ap (λ (y : Item). y.origin) is)
    step_kept x made from (skips n after empty is) = subst (λ (y : Item). (y.origin ≡ place) ⊎ HasPlaceAt kept y.origin) (sym is) from
    step_kept x made from (completes n p finished at (y, there, after, is)) =
        inr (subst (λ (z : Item). HasPlaceAt kept z.origin) (sym is) (closed x.origin p at y there))

    pub made_kept : {x : Item} → IsMade g kept place first x → (x.origin ≡ place) ⊎ HasPlaceAt kept x.origin
    made_kept (given x there) = begins_kept x there
    made_kept (stepped x made before step) = step_kept x made (made_kept before) step

  pub closure_exact : (word : List ℕ) (kept : List EarleySet) (place : ℕ) (first items : List Item) → AreItemSets g word kept → place ≡ length word → IsClosure g kept place first items
      → ((x : Item) → Contains items x → x.origin < place → HasPlaceAt kept x.origin)
      → ((x : Item) → Contains first x → IsItem g word x)
      → ((before : List ℕ) (a : LetterType) → word ≡ before ++ a.0 ∷ [] → (x : Item) → IsItem g before x → symbol_after g x ≡ Some (Letter a) → Contains first (advanced x))
      → (word ≡ [] → ArePredicted g 0 g.start first) → IsItemSet g word items
  closure_exact word kept place first items exact count closure covered sound scanned begun x = (
    λ there. made_sound word kept place exact count first sound (closure.made x there),
    λ item. complete word kept place exact count items closure.worked covered (λ before a is y y_item after. closure.kept_first (advanced y) (scanned before a is y y_item after))
        (λ empty number p at left. closure.kept_first (begins number 0) (begun empty number p at left)) x item,
  )

  -- ---- the words

  pub whole_is_word : (word : List ℕ) (x : Item) → IsItem g word x → IsWhole g x → IsWord g word
  whole_is_word word x item whole =
      let d = item_derives word x g.start item whole.1 in
      subst (λ (l : List ℕ). IsWord g l) (ap (λ (l : List ℕ). l ++ d.1) (sym (none d.0 (d.3 ∙ whole.0))) ∙ sym d.2) d.4
    where
      none : (l : List ℕ) → length l ≡ 0 → l ≡ []
      none [] e = refl
      none (c ∷ cs) e = absurd (omega (arith, e))

  pub word_is_whole : (word : List ℕ) → IsWord g word → (x : Item) × IsItem g word x × IsWhole g x
  word_is_whole word (node n below first others there cut inner no_tree) =
      let q : Production = record { left = n; symbols = below } in
      let number = place-Contains g.productions q there in
      let x : Item = record { production = number.0; dot = length below; origin = 0 } in (
        x,
        record {
          production = q;
          found = number.1;
          dot = omega arith;
          before = [];
          spelled = first;
          word_is = cut ∙ append-nil first;
          origin = refl;
          awaited = at_start;
          trees = subst (λ (l : List GrammarSymbol). Trees g.productions l first) (sym (take_all (length below) below (omega arith))) inner;
        },
        (refl, finished_from x q number.1 refl),
      )
