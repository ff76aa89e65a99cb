-- What the rules of a place's items add is what may follow there.
use Rattle.std.proofs.Common.{◌≡◌, ◌≢◌, ◌⊎◌, ◌↔◌, ℕ, ◌<◌, ◌≤◌, ◌+◌, Bool, true, false, cond, List, [], ◌∷◌, ◌++◌, length, take, drop, Contains, All, Some, None, Option, map, slice_get, refl, sym, ap, subst, ◌∙◌, inl, inr, arith, append-nil, length-append, take-append-drop}
use Rattle.std.specs.Prelude.{IsBitSet, unwrap_or}
use Rattle.std.specs.List.{list_any}
use Rattle.std.specs.Option.{option_and_then}
use Rattle.std.proofs.lemmas.Bool.{cases_lt, and_parts, and_from, or_cases as bool_cases, or_left, or_right, eqb-true, eq-eqb}
use Rattle.std.proofs.lemmas.Option.{slice_get-get_or}
use Rattle.std.proofs.lemmas.List.{take_at, drop_at}
use Rattle.std.proofs.lemmas.List.Elements.{All-head, All-tail, All-append, All-contains, Contains-append_right}
use Rattle.std.proofs.lemmas.List.Folds.{Any-from_list_any, list_any-from_Any}
use Rattle.jm_grammar.specs.declared.grammar.GrammarSymbol.{GrammarSymbol}
use Rattle.jm_grammar.specs.declared.grammar.GrammarSymbol.TheVariants.{Letter, Nonterminal}
use Rattle.jm_grammar.specs.declared.grammar.Production.{Production}
use Rattle.jm_grammar.specs.Grammars.{GrammarDefinition, IsSmall, IsSmallSymbol, IsSmallProduction}
use Rattle.jm_grammar.specs.Meanings.{Trees, IsWord}
use Rattle.jm_earley.specs.declared.item.Item.{Item}
use Rattle.jm_earley.specs.declared.rule.Rule.{Rule}
use Rattle.jm_earley.specs.declared.link.Link.{Link}
use Rattle.jm_earley.specs.declared.letter_set.LetterSet.{LetterSet}
use Rattle.jm_earley.specs.declared.continuation.Continuation.{Continuation}
use Rattle.jm_earley.specs.declared.continuation.Rest.{Rest}
use Rattle.jm_earley.specs.declared.continuation.Rest.TheVariants.{AnyLength, NotEmpty}
use Rattle.jm_earley.specs.declared.earley_set.EarleySet.{EarleySet}
use Rattle.jm_earley.specs.Items.{IsItem, IsItemSet}
use Rattle.jm_earley.specs.Continuations.{IsRest, at_end, within, IsContinuation, CanEnd, CanGoOn, CanBeContinued}
use Rattle.jm_earley.specs.Rules.{IsGained, at_once, later}
use Rattle.jm_earley.specs.LetterSets.{IsExact, can_spell, can_go_on}
use Rattle.jm_earley.specs.Links.{link_from, link_in, link_of, future_at, is_known, rest_rule, start_rule, rest_rules, keeps_alive_in, keeps_alive}
use Rattle.jm_earley.specs.EarleySets.{IsFuture, AreEarlierOf}
use Rattle.jm_earley.proofs.BitLemmas.{none_set, only_same, only_only, has_set, set_has}
use Rattle.jm_earley.proofs.ExtensionLemmas.{rest_awaited, item_production, continued, found}
use Rattle.jm_earley.proofs.SpellLemmas.{Contains-cons_cases, Contains-head, from_map, to_map, All-front, All-back, none_or_some, some_front, some_back, can_spells, spells_can, can_goes_on, goes_on_can}

module _ (g : GrammarDefinition) (small : IsSmall g.productions g.start) (set : LetterSet) (exact : IsExact g.productions set)
    (word : List ℕ) (items : List Item) (all : IsItemSet g word items) (number : ℕ) (earlier : List EarleySet) (are : AreEarlierOf g set.letters number word earlier) where
  abbrev ps : List Production
  ps = g.productions

  abbrev A : ℕ
  A = set.letters

  -- ---- where an item began

  nothing : (xs : List ℕ) → length xs ≡ 0 → xs ≡ []
  nothing [] e = refl
  nothing (x ∷ xs) e = absurd (omega arith)

  earlier_or_here : (item : Item) (i : IsItem g word item) → ((item.origin < length word) × (i.before ≡ take item.origin word)) ⊎ ((length word ≤ item.origin) × (i.before ≡ word))
  earlier_or_here item i =
      let counts : length word ≡ length i.before + length i.spelled = ap length i.word_is ∙ length-append i.before i.spelled in
      elim (cases_lt item.origin (length word)) [
        | inl lt ↦
            let front : take (length i.before) (i.before ++ i.spelled) ≡ i.before = take_at i.before i.spelled (length i.before) refl in
            inl (lt, sym front ∙ ap (λ (k : ℕ). take k (i.before ++ i.spelled)) i.origin ∙ ap (λ (l : List ℕ). take item.origin l) (sym i.word_is))
        | inr ge ↦
            let none : i.spelled ≡ [] = nothing i.spelled (omega (arith, counts, i.origin, ge)) in
            inr (ge, sym (i.word_is ∙ ap (λ (l : List ℕ). i.before ++ l) none ∙ append-nil i.before))
      ]

  abbrev there_of : Item → Option Continuation
  there_of item = future_at earlier number item.origin

  there_cases : (item : Item) (i : IsItem g word item) → ((f : Continuation) × (there_of item ≡ Some f) × IsFuture g A i.before f) ⊎ ((there_of item ≡ None) × (i.before ≡ word))
  there_cases item i = elim (earlier_or_here item i) [
    | inl h ↦ let f = are.each item i h.0 in inl (f.0, f.1, subst (λ (l : List ℕ). IsFuture g A l f.0) (sym h.1) f.2)
    | inr h ↦
        inr (ap (λ (o : Option EarleySet). option_and_then (λ (p : EarleySet). slice_get p.futures.futures.items number) o) (are.past item.origin h.0), h.1)
  ]

  future_there : (item : Item) (i : IsItem g word item) (f : Continuation) → there_of item ≡ Some f → IsFuture g A i.before f
  future_there item i f e = elim (there_cases item i) [
    | inl h ↦ subst (λ (x : Continuation). IsFuture g A i.before x) (ap (λ (o : Option Continuation). unwrap_or o f) (sym h.1 ∙ e)) h.2
    | inr h ↦ absurd (let clash = h.0 in cc)
  ]

  here_there : (item : Item) (i : IsItem g word item) → there_of item ≡ None → i.before ≡ word
  here_there item i e = elim (there_cases item i) [ inl h ↦ absurd (let clash = h.1 in cc) | inr h ↦ h.1 ]

  -- ---- the rests that are asked for

  abbrev IsAsked : Rest → List ℕ → Type 0
  IsAsked AnyLength letters = Unit {0}
  IsAsked (NotEmpty ends) letters = letters ≢ []

  asked_back : (rest : Rest) (behind follows : List ℕ) → IsAsked rest follows → IsAsked rest (behind ++ follows)
  asked_back AnyLength behind follows asked = tt
  asked_back (NotEmpty ends) behind follows asked = some_back behind follows asked

  -- such a rest may follow the nonterminal after the word
  abbrev CanFollow : Rest → List ℕ → ℕ → Type 0
  CanFollow rest w n = (letters : List ℕ) × All (IsBitSet A) letters × IsRest ps g.start w n letters × IsAsked rest letters

  -- what is known before are the nonterminals that any rest may follow
  abbrev AreKnown : Rest → Type 0
  AreKnown AnyLength = Unit {0}
  AreKnown (NotEmpty ends) = (n : ℕ) → IsBitSet ends n ↔ CanEnd g A word n

  -- ---- what an item's link says

  record IsLink (item : Item) (i : IsItem g word item) (l : Link) : Type 0 where
    back : List GrammarSymbol
    symbols : drop item.dot i.production.symbols ≡ Nonterminal l.next ∷ back
    spelled : can_spell set back ≡ true
    goes_on : l.goes_on ≡ can_go_on set back
    left : l.left ≡ i.production.left

  record IsLinkFrom (left : ℕ) (symbols : List GrammarSymbol) (l : Link) : Type 0 where
    back : List GrammarSymbol
    symbols_are : symbols ≡ Nonterminal l.next ∷ back
    spelled : can_spell set back ≡ true
    goes_on : l.goes_on ≡ can_go_on set back
    left_is : l.left ≡ left

  abbrev link_here : ℕ → ℕ → List GrammarSymbol → Link
  link_here left n back = record { left = left; next = n; goes_on = can_go_on set back }

  from_spelled : (left n : ℕ) (back : List GrammarSymbol) (l : Link) (b : Bool) → can_spell set back ≡ b → cond b (Some (link_here left n back)) None ≡ Some l → IsLinkFrom left (Nonterminal n ∷ back) l
  from_spelled left n back l true spelled e =
      let same : link_here left n back ≡ l = ap (λ (o : Option Link). unwrap_or o l) e in
      record {
        back = back;
        symbols_are = ap (λ (k : Link). Nonterminal k.next ∷ back) same;
        spelled = spelled;
        goes_on = sym (ap (λ (k : Link). k.goes_on) same);
        left_is = sym (ap (λ (k : Link). k.left) same);
      }
  from_spelled left n back l false spelled e = absurd (cc)

  from_link : (left : ℕ) (symbols : List GrammarSymbol) (l : Link) → link_from left set symbols ≡ Some l → IsLinkFrom left symbols l
  from_link left [] l e = absurd (cc)
  from_link left (Letter a ∷ back) l e = absurd (cc)
  from_link left (Nonterminal n ∷ back) l e = from_spelled left n back l (can_spell set back) refl e

  link_says : (item : Item) (i : IsItem g word item) (l : Link) → link_of ps set item ≡ Some l → IsLink item i l
  link_says item i l e =
      let from = from_link i.production.left (drop item.dot i.production.symbols) l (sym (ap (λ (o : Option Production). link_in item set o) i.found) ∙ e) in
      record { back = from.back; symbols = from.symbols_are; spelled = from.spelled; goes_on = from.goes_on; left = from.left_is }

  link_is : (item : Item) (i : IsItem g word item) (n : ℕ) (back : List GrammarSymbol) → drop item.dot i.production.symbols ≡ Nonterminal n ∷ back → can_spell set back ≡ true
      → link_of ps set item ≡ Some (record { left = i.production.left; next = n; goes_on = can_go_on set back })
  link_is item i n back e spelled =
      let here : Link = record { left = i.production.left; next = n; goes_on = can_go_on set back } in
      ap (λ (o : Option Production). link_in item set o) i.found ∙ ap (λ (s : List GrammarSymbol). link_from i.production.left set s) e ∙ ap (λ (b : Bool). cond b (Some here) None) spelled

  -- ---- from the place where the item began to this one

  extend : (item : Item) (i : IsItem g word item) (n : ℕ) (back : List GrammarSymbol) → drop item.dot i.production.symbols ≡ Nonterminal n ∷ back
      → (behind follows : List ℕ) → Trees ps back behind → IsRest ps g.start i.before i.production.left follows → IsRest ps g.start word n (behind ++ follows)
  extend item i n back e behind follows trees rest =
      within i.before i.spelled word behind follows (behind ++ follows) i.production (take item.dot i.production.symbols) n back rest (item_production g word item i)
      (sym (take-append-drop item.dot i.production.symbols) ∙ ap (λ (s : List GrammarSymbol). take item.dot i.production.symbols ++ s) e) i.trees trees i.word_is refl

  extend_letters : (item : Item) (i : IsItem g word item) (l : Link) → IsLink item i l → l.goes_on ≡ true → CanEnd g A i.before l.left → CanGoOn g A word l.next
  extend_letters item i l says goes_on ends =
      let back = can_goes_on ps small.each set exact says.back says.spelled (sym says.goes_on ∙ goes_on) in
      let rest = subst (λ (k : ℕ). IsRest ps g.start i.before k ends.0) says.left ends.2 in
      (back.0 ++ ends.0, All-append (IsBitSet A) back.0 ends.0 back.1 ends.1, extend item i l.next says.back says.symbols back.0 ends.0 back.2 rest, some_front back.0 ends.0 back.3)

  extend_asked : (rest : Rest) (item : Item) (i : IsItem g word item) (l : Link) → IsLink item i l → CanFollow rest i.before l.left → CanFollow rest word l.next
  extend_asked rest item i l says asked =
      let back = can_spells ps small.each set exact says.back says.spelled in
      let follows = subst (λ (k : ℕ). IsRest ps g.start i.before k asked.0) says.left asked.2 in
      (back.0 ++ asked.0, All-append (IsBitSet A) back.0 asked.0 back.1 asked.1, extend item i l.next says.back says.symbols back.0 asked.0 back.2 follows, asked_back rest back.0 asked.0 asked.3)

  -- ---- an item of this place, from a rest

  record IsStep (n : ℕ) (before behind follows : List ℕ) : Type 0 where
    item : Item
    is_item : IsItem g word item
    is_before : is_item.before ≡ before
    back : List GrammarSymbol
    symbols : drop item.dot is_item.production.symbols ≡ Nonterminal n ∷ back
    trees : Trees ps back behind
    small_back : All IsSmallSymbol back
    small_next : n < 64
    small_left : is_item.production.left < 64
    rest : IsRest ps g.start is_item.before is_item.production.left follows

  step : (before spelled behind follows : List ℕ) (p : Production) (front : List GrammarSymbol) (n : ℕ) (back : List GrammarSymbol)
      → IsRest ps g.start before p.left follows → Contains ps p → p.symbols ≡ front ++ Nonterminal n ∷ back → Trees ps front spelled → Trees ps back behind
      → word ≡ before ++ spelled → IsStep n before behind follows
  step before spelled behind follows p front n back left there is trees trees' word_is =
      let fits : length front ≤ length p.symbols = omega (arith, ap length is, length-append front (Nonterminal n ∷ back)) in
      let taken : front ≡ take (length front) p.symbols = rw is (sym (take_at front (Nonterminal n ∷ back) (length front) refl)) in
      let dropped : drop (length front) p.symbols ≡ Nonterminal n ∷ back = rw is (drop_at front (Nonterminal n ∷ back) (length front) refl) in
      let few = All-contains IsSmallProduction ps p small.each there in
      let others : All IsSmallSymbol (Nonterminal n ∷ back) = All-back IsSmallSymbol front (Nonterminal n ∷ back) (subst (λ (s : List GrammarSymbol). All IsSmallSymbol s) is few.symbols) in
      record {
        item = record { production = there.0; dot = length front; origin = length before };
        is_item = record {
          production = p;
          found = slice_get-get_or ps there.0 p there.1 ∙ ap Some there.2;
          dot = fits;
          before = before;
          spelled = spelled;
          word_is = word_is;
          origin = refl;
          awaited = rest_awaited g left;
          trees = subst (λ (s : List GrammarSymbol). Trees ps s spelled) taken trees;
        };
        is_before = refl;
        back = back;
        symbols = dropped;
        trees = trees';
        small_back = All-tail IsSmallSymbol (Nonterminal n) back others;
        small_next = All-head IsSmallSymbol (Nonterminal n) back others;
        small_left = few.left;
        rest = left;
      }

  -- ---- the nonterminals that such a rest may follow

  known_follows : (rest : Rest) → AreKnown rest → (item : Item) (i : IsItem g word item) (l : Link) → link_of ps set item ≡ Some l → (t : Option Continuation) → there_of item ≡ t
      → is_known rest l t ≡ true → CanFollow rest word l.next
  known_follows AnyLength are_known item i l e None there known = absurd (cc)
  known_follows AnyLength are_known item i l e (Some f) there known =
      let ends = ((future_there item i f there).ends l.left).0 (has_set f.ends l.left known) in
      extend_asked AnyLength item i l (link_says item i l e) (ends.0, ends.1, ends.2, tt)
  known_follows (NotEmpty ends) are_known item i l e None there known =
      let both = and_parts _ _ known in
      let left : CanEnd g A i.before l.left = subst (λ (w : List ℕ). CanEnd g A w l.left) (sym (here_there item i there)) ((are_known l.left).0 (has_set ends l.left both.1)) in
      extend_letters item i l (link_says item i l e) both.0 left
  known_follows (NotEmpty ends) are_known item i l e (Some f) there known =
      let future = future_there item i f there in
      let says = link_says item i l e in
      elim (bool_cases _ _ known) [
        | inl one ↦ let both = and_parts _ _ one in extend_letters item i l says both.0 ((future.ends l.left).0 (has_set f.ends l.left both.1))
        | inr two ↦ extend_asked (NotEmpty ends) item i l says ((future.more l.left).0 (has_set f.more l.left two))
      ]

  -- it is known, or such a rest follows the left side of an item that began here
  known_or_here : (rest : Rest) → AreKnown rest → (item : Item) (i : IsItem g word item) (l : Link) → l.left < 64 → (behind follows : List ℕ) → (behind ≢ [] → l.goes_on ≡ true)
      → All (IsBitSet A) follows → IsRest ps g.start i.before l.left follows → IsAsked rest (behind ++ follows)
      → (is_known rest l (there_of item) ≡ true) ⊎ (IsAsked rest follows × (there_of item ≡ None) × (i.before ≡ word))
  known_or_here AnyLength are_known item i l lt behind follows goes_on all_follows left asked = elim (there_cases item i) [
    | inl f ↦ inl (subst (λ (o : Option Continuation). is_known AnyLength l o ≡ true) (sym f.1) (set_has f.0.ends l.left lt ((f.2.ends l.left).1 (follows, all_follows, left))))
    | inr here ↦ inr (tt, here.0, here.1)
  ]
  known_or_here (NotEmpty ends) are_known item i l lt behind follows goes_on all_follows left asked = elim (there_cases item i) [
    | inl f ↦
        let known : is_known (NotEmpty ends) l (Some f.0) ≡ true = elim (none_or_some behind) [
          | inl none ↦ or_right _ _ (set_has f.0.more l.left lt ((f.2.more l.left).1 (follows, all_follows, left, λ e. asked (ap (λ (x : List ℕ). x ++ follows) none ∙ e))))
          | inr letters ↦ or_left _ _ (and_from _ _ (goes_on letters) (set_has f.0.ends l.left lt ((f.2.ends l.left).1 (follows, all_follows, left))))
        ] in
        inl (subst (λ (o : Option Continuation). is_known (NotEmpty ends) l o ≡ true) (sym f.1) known)
    | inr here ↦ elim (none_or_some behind) [
      | inl none ↦ inr (λ e. asked (ap (λ (x : List ℕ). x ++ follows) none ∙ e), here.0, here.1)
      | inr letters ↦
          let left_ends : CanEnd g A word l.left = (follows, all_follows, subst (λ (w : List ℕ). IsRest ps g.start w l.left follows) here.1 left) in
          inl (subst (λ (o : Option Continuation). is_known (NotEmpty ends) l o ≡ true) (sym here.0) (and_from _ _ (goes_on letters) (set_has ends l.left lt ((are_known l.left).1 left_ends))))
    ]
  ]

  abbrev start_of : Rest → Rule
  start_of rest = start_rule rest g.start earlier

  start_sound : (rest : Rest) (n : ℕ) → (start_of rest).always ≡ true → IsBitSet (start_of rest).gives n → CanFollow rest word n
  start_sound AnyLength n always gives =
      let none : [] ≡ word = sym (nothing word (are.none.0 (eqb-true _ _ always))) in
      let start : IsRest ps g.start [] n [] = subst (λ (k : ℕ). IsRest ps g.start [] k []) (sym (only_only g.start n gives)) at_end in
      ([], (λ k d lt. absurd (omega (arith, lt))), subst (λ (l : List ℕ). IsRest ps g.start l n []) none start, tt)
  start_sound (NotEmpty ends) n always gives = absurd (none_set n gives)

  start_alone : (rest : Rest) (m : ℕ) → IsBitSet (start_of rest).any m → ⊥
  start_alone AnyLength m any = none_set m any
  start_alone (NotEmpty ends) m any = none_set m any

  module _ (rest : Rest) (are_known : AreKnown rest) where
    abbrev rule_of : Item → Rule
    rule_of item = rest_rule rest (link_of ps set item) (there_of item)

    abbrev pub all_rules : List Rule
    all_rules = rest_rules g rest set number earlier items

    rule_once : (item : Item) (i : IsItem g word item) (n : ℕ) (o : Option Link) → link_of ps set item ≡ o
        → (rest_rule rest o (there_of item)).always ≡ true → IsBitSet (rest_rule rest o (there_of item)).gives n → CanFollow rest word n
    rule_once item i n None e always gives = absurd (none_set n gives)
    rule_once item i n (Some l) e always gives =
        subst (λ (k : ℕ). CanFollow rest word k) (sym (only_only l.next n gives)) (known_follows rest are_known item i l e (there_of item) refl always)

    rule_later : (item : Item) (i : IsItem g word item) (n m : ℕ) (o : Option Link) → link_of ps set item ≡ o → (t : Option Continuation) → there_of item ≡ t
        → IsBitSet (rest_rule rest o t).any m → CanFollow rest word m → IsBitSet (rest_rule rest o t).gives n → CanFollow rest word n
    rule_later item i n m None e t there any before gives = absurd (none_set n gives)
    rule_later item i n m (Some l) e (Some f) there any before gives = absurd (none_set m any)
    rule_later item i n m (Some l) e None there any before gives =
        let left : CanFollow rest word l.left = subst (λ (k : ℕ). CanFollow rest word k) (only_only l.left m any) before in
        subst (λ (k : ℕ). CanFollow rest word k) (sym (only_only l.next n gives))
        (extend_asked rest item i l (link_says item i l e) (subst (λ (w : List ℕ). CanFollow rest w l.left) (sym (here_there item i there)) left))

    pub sound : {n : ℕ} → IsGained all_rules n → CanFollow rest word n
    sound (at_once r n there always gives) = elim (Contains-cons_cases (start_of rest) (map rule_of items) r there) [
      | inl e ↦ start_sound rest n (ap (λ (q : Rule). q.always) e ∙ always) (subst (λ (q : Rule). IsBitSet q.gives n) (sym e) gives)
      | inr in_items ↦
          let from = from_map rule_of items r in_items in
          rule_once from.0 ((all from.0).0 from.1) n (link_of ps set from.0) refl (ap (λ (q : Rule). q.always) from.2 ∙ always) (subst (λ (q : Rule). IsBitSet q.gives n) (sym from.2) gives)
    ]
    sound (later r m n there any before gives) =
        let left = sound before in
        elim (Contains-cons_cases (start_of rest) (map rule_of items) r there) [
          | inl e ↦ absurd (start_alone rest m (subst (λ (q : Rule). IsBitSet q.any m) (sym e) any))
          | inr in_items ↦
              let from = from_map rule_of items r in_items in
              rule_later from.0 ((all from.0).0 from.1) n m (link_of ps set from.0) refl (there_of from.0) refl
              (subst (λ (q : Rule). IsBitSet q.any m) (sym from.2) any) left (subst (λ (q : Rule). IsBitSet q.gives n) (sym from.2) gives)
        ]

    rule_there : (item : Item) → Contains items item → (l : Link) → link_of ps set item ≡ Some l → (t : Option Continuation) → there_of item ≡ t → Contains all_rules (rest_rule rest (Some l) t)
    rule_there item inside l e t there =
        let mapped : Contains (map rule_of items) (rule_of item) = to_map rule_of items item inside in
        let one : Contains (map rule_of items) (rest_rule rest (Some l) (there_of item)) = subst (λ (o : Option Link). Contains (map rule_of items) (rest_rule rest o (there_of item))) e mapped in
        Contains-append_right (start_of rest ∷ []) (map rule_of items) _ (subst (λ (o : Option Continuation). Contains (map rule_of items) (rest_rule rest (Some l) o)) there one)

    start_complete : (r : Rest) → [] ≡ word → IsAsked r [] → ((start_of r).always ≡ true) × IsBitSet (start_of r).gives g.start
    start_complete AnyLength e asked = (eq-eqb (length earlier) 0 (are.none.1 (ap length (sym e))), only_same g.start small.first)
    start_complete (NotEmpty ends) e asked = absurd (asked refl)

    pub complete : {w : List ℕ} {n : ℕ} {letters : List ℕ} → IsRest ps g.start w n letters → w ≡ word → All (IsBitSet A) letters → IsAsked rest letters → IsGained all_rules n
    unfolding step
    complete at_end e h asked =
        let start = start_complete rest e asked in
        at_once (start_of rest) g.start (Contains-head (map rule_of items) (start_of rest)) start.0 start.1
    complete (within before spelled w behind follows letters p front n back left there is trees trees' word_is letters_are) e h asked =
        let s = step before spelled behind follows p front n back left there is trees trees' (sym e ∙ word_is) in
        let i = s.is_item in
        let parts : All (IsBitSet A) (behind ++ follows) = subst (λ (l : List ℕ). All (IsBitSet A) l) letters_are h in
        let all_behind = All-front (IsBitSet A) behind follows parts in
        let all_follows = All-back (IsBitSet A) behind follows parts in
        let l : Link = record { left = i.production.left; next = n; goes_on = can_go_on set s.back } in
        let link = link_is s.item i n s.back s.symbols (spells_can ps small.each set exact s.back behind s.trees s.small_back all_behind) in
        let in_rules = rule_there s.item ((all s.item).1 i) l link in
        let gives = only_same n s.small_next in
        elim (known_or_here rest are_known s.item i l s.small_left behind follows (goes_on_can ps small.each set exact s.back behind s.trees s.small_back all_behind)
        all_follows s.rest (subst (IsAsked rest) letters_are asked)) [
          | inl known ↦ at_once (rest_rule rest (Some l) (there_of s.item)) n (in_rules (there_of s.item) refl) known gives
          | inr here ↦
              let before_left = complete left (sym s.is_before ∙ here.2) all_follows here.0 in
              later (rest_rule rest (Some l) None) p.left n (in_rules None here.1) (only_same p.left s.small_left) before_left gives
        ]

  -- ---- whether letters may follow the word

  module _ (ends : ℕ) (ends_are : (n : ℕ) → IsBitSet ends n ↔ CanEnd g A word n) (more : ℕ) (more_are : (n : ℕ) → IsBitSet more n ↔ CanGoOn g A word n) where
    abbrev here : Continuation
    here = record { ends = ends; more = more; alive = false }

    record IsRow (before : List ℕ) (f : Continuation) : Type 0 where
      row_ends : (n : ℕ) → IsBitSet f.ends n ↔ CanEnd g A before n
      row_more : (n : ℕ) → IsBitSet f.more n ↔ CanGoOn g A before n

    row_of : (item : Item) (i : IsItem g word item) → IsRow i.before (unwrap_or (there_of item) here)
    row_of item i = elim (there_cases item i) [
      | inl h ↦ subst (λ (o : Option Continuation). IsRow i.before (unwrap_or o here)) (sym h.1) (record { row_ends = h.2.ends; row_more = h.2.more })
      | inr h ↦
          let at_word : IsRow word here = record { row_ends = ends_are; row_more = more_are } in
          subst (λ (o : Option Continuation). IsRow i.before (unwrap_or o here)) (sym h.0) (subst (λ (w : List ℕ). IsRow w here) (sym h.1) at_word)
    ]

    abbrev keeps : Item → Bool
    keeps item = keeps_alive ps set number earlier here item

    abbrev keeps_by : Item → Production → Bool
    keeps_by item p = keeps_alive_in item set (unwrap_or (there_of item) here) (Some p)

    keeps_is : (item : Item) (i : IsItem g word item) → keeps item ≡ keeps_by item i.production
    keeps_is item i = ap (λ (o : Option Production). keeps_alive_in item set (unwrap_or (there_of item) here) o) i.found

    goes_on_with : (item : Item) (i : IsItem g word item) (behind follows : List ℕ) → Trees ps (drop item.dot i.production.symbols) behind
        → IsRest ps g.start i.before i.production.left follows → IsWord g (word ++ (behind ++ follows))
    goes_on_with item i behind follows trees rest =
        continued g word (behind ++ follows) item (record { is_item = i; behind = behind; follows = follows; more_is = refl; trees = trees; rest = rest })

    keeps_alive_word : (item : Item) → IsItem g word item → keeps item ≡ true → CanBeContinued g A word
    keeps_alive_word item i h =
        let row = row_of item i in
        let left = i.production.left in
        let symbols = drop item.dot i.production.symbols in
        let both = and_parts _ _ (sym (keeps_is item i) ∙ h) in
        elim (bool_cases _ _ both.1) [
          | inl one ↦
              let two = and_parts _ _ one in
              let back = can_goes_on ps small.each set exact symbols both.0 two.0 in
              let ends_there = (row.row_ends left).0 (has_set _ left two.1) in
              (back.0 ++ ends_there.0, All-append (IsBitSet A) back.0 ends_there.0 back.1 ends_there.1, goes_on_with item i back.0 ends_there.0 back.2 ends_there.2, some_front back.0 ends_there.0 back.3)
          | inr two ↦
              let back = can_spells ps small.each set exact symbols both.0 in
              let more_there = (row.row_more left).0 (has_set _ left two) in
              (back.0 ++ more_there.0, All-append (IsBitSet A) back.0 more_there.0 back.1 more_there.1, goes_on_with item i back.0 more_there.0 back.2 more_there.2, some_back back.0 more_there.0 more_there.3)
        ]

    All-rest_of : (n : ℕ) (symbols : List GrammarSymbol) → All IsSmallSymbol symbols → All IsSmallSymbol (drop n symbols)
    All-rest_of n symbols h = All-back IsSmallSymbol (take n symbols) (drop n symbols) (subst (λ (s : List GrammarSymbol). All IsSmallSymbol s) (sym (take-append-drop n symbols)) h)

    word_keeps : (item : Item) (letters : List ℕ) → (c : IsContinuation g word item letters) → All (IsBitSet A) letters → letters ≢ [] → keeps item ≡ true
    word_keeps item letters c h some =
        let i = c.is_item in
        let row = row_of item i in
        let p = i.production in
        let few = All-contains IsSmallProduction ps p small.each (item_production g word item i) in
        let few_behind = All-rest_of item.dot p.symbols few.symbols in
        let parts : All (IsBitSet A) (c.behind ++ c.follows) = subst (λ (l : List ℕ). All (IsBitSet A) l) c.more_is h in
        let front = All-front (IsBitSet A) c.behind c.follows parts in
        let back = All-back (IsBitSet A) c.behind c.follows parts in
        let spell = spells_can ps small.each set exact (drop item.dot p.symbols) c.behind c.trees few_behind front in
        let kept : keeps_by item p ≡ true = elim (none_or_some c.behind) [
          | inl none ↦
              let rest_some : c.follows ≢ [] = λ f. some (c.more_is ∙ ap (λ (x : List ℕ). x ++ c.follows) none ∙ f) in
              and_from _ _ spell (or_right _ _ (set_has _ p.left few.left ((row.row_more p.left).1 (c.follows, back, c.rest, rest_some))))
          | inr one ↦
              and_from _ _ spell (or_left _ _ (and_from _ _ (goes_on_can ps small.each set exact (drop item.dot p.symbols) c.behind c.trees few_behind front one)
              (set_has _ p.left few.left ((row.row_ends p.left).1 (c.follows, back, c.rest)))))
        ] in
        keeps_is item i ∙ kept

    pub alive_exact : (list_any keeps items ≡ true) ↔ CanBeContinued g A word
    alive_exact = (
      λ h. let one = Any-from_list_any keeps items h in
          keeps_alive_word one.1 ((all one.1).0 (one.0, one.2, one.3)) one.4,
      λ h. let there = found g word h.0 h.2 in
          let inside = (all there.0).1 there.1.is_item in
          list_any-from_Any keeps items (inside.0, there.0, inside.1, inside.2, word_keeps there.0 h.0 there.1 h.1 h.3),
    )

  -- what the rules add is what may follow
  pub future_exact : (ends more : ℕ) (alive : Bool)
      → ((n : ℕ) → IsBitSet ends n ↔ IsGained (rest_rules g AnyLength set number earlier items) n)
      → ((n : ℕ) → IsBitSet more n ↔ IsGained (rest_rules g (NotEmpty ends) set number earlier items) n)
      → alive ≡ list_any (keeps_alive ps set number earlier (record { ends = ends; more = more; alive = false })) items
      → IsFuture g A word (record { ends = ends; more = more; alive = alive })
  future_exact ends more alive ends_gained more_gained alive_is =
      let ends_are : (n : ℕ) → IsBitSet ends n ↔ CanEnd g A word n =
      λ n. (λ h. let e = sound AnyLength tt ((ends_gained n).0 h) in (e.0, e.1, e.2), λ h. (ends_gained n).1 (complete AnyLength tt h.2 refl h.1 tt)) in
      let more_are : (n : ℕ) → IsBitSet more n ↔ CanGoOn g A word n =
      λ n. (λ h. sound (NotEmpty ends) ends_are ((more_gained n).0 h), λ h. (more_gained n).1 (complete (NotEmpty ends) ends_are h.2 refl h.1 h.3)) in
      record {
        ends = ends_are;
        more = more_are;
        alive = subst (λ (b : Bool). (b ≡ true) ↔ CanBeContinued g A word) (sym alive_is) (alive_exact ends ends_are more more_are);
      }
