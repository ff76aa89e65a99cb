-- The words of the suffixed productions are those that end in a word of the grammar, of a letter or more.
use Rattle.std.proofs.Common.{◌≡◌, ◌≢◌, ◌<◌, ◌≤◌, ◌+◌, ◌↔◌, ◌⊎◌, inl, inr, ℕ, Bool, true, cond, List, [], ◌∷◌, ◌++◌, All, Contains, get_or, map, refl, sym, ap, ◌∙◌, subst, arith, append-nil}
use Rattle.std.specs.Prelude.{IsBitSet}
use Rattle.std.specs.List.{range_with_len}
use Rattle.std.proofs.lemmas.Bool.{cases_Bool, eqb-true}
use Rattle.std.proofs.lemmas.Nat.Bits.{bit_at-zero}
use Rattle.std.proofs.lemmas.List.FromFn.{length-map-range_with_len, length-range_with_len, get_or-range_with_len, get_or-map-range_with_len}
use Rattle.std.proofs.lemmas.List.Elements.{All-nil, All-cons, All-head, All-tail, All-append, All-push, All-weaker, All-map, All-contains, All-contains_itself, Contains-append_left, Contains-append_right, Contains-append_cases, Contains-push, Contains-push_cases}
use Rattle.jm_model.specs.declared.step.Letter.{Letter as LetterType}
use Rattle.jm_ere.specs.Suffixes.{EndsIn}
use Rattle.jm_grammar.specs.declared.grammar.GrammarSymbol.{GrammarSymbol}
use Rattle.jm_grammar.specs.declared.grammar.GrammarSymbol.TheVariants.{Letter, Nonterminal}
use Rattle.jm_grammar.specs.declared.grammar.Production.{Production}
use Rattle.jm_grammar.specs.Grammars.{GrammarDefinition, IsSmallSymbol, HasSmallNumbers, IsBelow, AreBelow, IsSymbolWithin, IsProductionWithin, IsWithin}
use Rattle.jm_grammar.specs.Meanings.{Trees, no_tree, leaf, node, Derives, DerivesOf, IsWord}
use Rattle.jm_grammar.specs.Rounds.{has_bit}
use Rattle.jm_grammar.proofs.RoundLemmas.{bit_of, of_bit}
use Rattle.jm_suffix.specs.Seconds.{second, can_be_empty, second_forms, all_second_forms, start_behind, start_forms, suffixed_productions}
use Rattle.jm_suffix.proofs.SecondLemmas.{IsSecond, here, later, completed, AreFirst, sound_second}

-- ---- lists

first_or_later : {X : Type 0} (y : X) (xs : List X) (x : X) → Contains (y ∷ xs) x → (y ≡ x) ⊎ Contains xs x
first_or_later y xs x h =
    elim (Contains-append_cases (y ∷ []) xs x h)
    [ inl one ↦ elim (Contains-push_cases [] y x one) [ inl none ↦ absurd (omega (arith, none.1)) | inr e ↦ inl e ] | inr rest ↦ inr rest ]

first_there : {X : Type 0} (x : X) (xs : List X) → Contains (x ∷ xs) x
first_there x xs = (0, omega arith, refl)

all_of : {X : Type 0} (P : X → Type 0) (xs : List X) → ((x : X) → Contains xs x → P x) → All P xs
all_of P xs each = All-weaker (Contains xs) P each xs (All-contains_itself xs)

-- ---- second forms

module _ (empty : ℕ) where
  forms_are : (left : ℕ) (symbols : List GrammarSymbol) (p : Production) → Contains (second_forms empty left symbols) p → (p.left ≡ left) × IsSecond empty symbols p.symbols
  forms_are left [] p h = absurd (omega (arith, h.1))
  forms_are left (s ∷ symbols) p h =
      elim (first_or_later (record { left = left; symbols = second s ∷ symbols }) (cond (can_be_empty empty s) (second_forms empty left symbols) []) p h) [
        | inl is ↦ (sym (ap (λ (x : Production). x.left) is), here (sym (ap (λ (x : Production). x.symbols) is)))
        | inr rest ↦ elim (cases_Bool (can_be_empty empty s)) [
          | inl nullable ↦
              let k : Contains (second_forms empty left symbols) p = rw nullable at rest in
              let more = forms_are left symbols p k in
              (more.0, later nullable more.1)
          | inr never ↦ let k : Contains {X = Production} [] p = rw never at rest in absurd (omega (arith, k.1))
        ]
      ]

  forms_there : (left : ℕ) {symbols made : List GrammarSymbol} → IsSecond empty symbols made → Contains (second_forms empty left symbols) (record { left = left; symbols = made })
  forms_there left (here {s = s} {symbols = symbols} is) =
      subst (λ (l : List GrammarSymbol). Contains (second_forms empty left (s ∷ symbols)) (record { left = left; symbols = l })) (sym is)
      (first_there (record { left = left; symbols = second s ∷ symbols }) (cond (can_be_empty empty s) (second_forms empty left symbols) []))
  forms_there left (later {s = s} {symbols = symbols} {made = made} nullable k) =
      subst (λ (b : Bool). Contains (record { left = left; symbols = second s ∷ symbols } ∷ cond b (second_forms empty left symbols) []) (record { left = left; symbols = made })) (sym nullable)
      (Contains-append_right (record { left = left; symbols = second s ∷ symbols } ∷ []) (second_forms empty left symbols) (record { left = left; symbols = made }) (forms_there left k))

  all_are : (ps : List Production) (p : Production) → Contains (all_second_forms empty ps) p → (q : Production) × Contains ps q × (p.left ≡ q.left + 31) × IsSecond empty q.symbols p.symbols
  all_are [] p h = absurd (omega (arith, h.1))
  all_are (q ∷ ps) p h =
      elim (Contains-append_cases (second_forms empty (q.left + 31) q.symbols) (all_second_forms empty ps) p h) [
        | inl one ↦ let f = forms_are (q.left + 31) q.symbols p one in (q, first_there q ps, f.0, f.1)
        | inr rest ↦ let more = all_are ps p rest in (more.0, Contains-append_right (q ∷ []) ps more.0 more.1, more.2, more.3)
      ]

  all_there : (ps : List Production) (q : Production) (made : List GrammarSymbol) → Contains ps q → IsSecond empty q.symbols made → Contains (all_second_forms empty ps) (record { left = q.left + 31; symbols = made })
  all_there [] q made h k = absurd (omega (arith, h.1))
  all_there (p ∷ ps) q made h k =
      elim (first_or_later p ps q h) [
        | inl same ↦ subst (λ (x : Production). IsSecond empty x.symbols made → Contains (all_second_forms empty (p ∷ ps)) (record { left = x.left + 31; symbols = made })) same
            (λ own. Contains-append_left (second_forms empty (p.left + 31) p.symbols) (all_second_forms empty ps) (record { left = p.left + 31; symbols = made }) (forms_there (p.left + 31) own)) k
        | inr rest ↦ Contains-append_right (second_forms empty (p.left + 31) p.symbols) (all_second_forms empty ps) (record { left = q.left + 31; symbols = made }) (all_there ps q made rest k)
      ]

  -- what holds of the symbols holds of those of a second form, and something of the second form of one
  second_all : (P Q : GrammarSymbol → Type 0) → ((s : GrammarSymbol) → P s → Q s) → ((s : GrammarSymbol) → P s → Q (second s)) → {symbols made : List GrammarSymbol} → IsSecond empty symbols made → All P symbols → All Q made
  second_all P Q own form (here {s = s} {symbols = symbols} is) all =
      subst (λ (l : List GrammarSymbol). All Q l) (sym is) (All-cons Q (second s) symbols (form s (All-head P s symbols all)) (All-weaker P Q own symbols (All-tail P s symbols all)))
  second_all P Q own form (later {s = s} {symbols = symbols} nullable k) all = second_all P Q own form k (All-tail P s symbols all)

-- ---- the productions of the new start

module _ (letters start : ℕ) where
  -- a letter and the start again, or the second form of the old start
  abbrev Begins : List GrammarSymbol → Type 0
  Begins symbols =
      ((a : LetterType) × (a.0 < letters) × (symbols ≡ Letter a ∷ Nonterminal 62 ∷ []))
      ⊎ (symbols ≡ Nonterminal (start + 31) ∷ [])

  record IsStart (p : Production) : Type 0 where
    left : p.left ≡ 62
    symbols : Begins p.symbols

  behind_is : (a : ℕ) → a < letters → IsStart (start_behind a)
  behind_is a lt = record { left = refl; symbols = inl (record { 0 = a }, lt, refl) }

  range_below : All (λ a. a < letters) (range_with_len 0 letters)
  range_below = λ k d lt.
      let few : k < letters = omega (arith, lt, length-range_with_len 0 letters) in
      let at : get_or (range_with_len 0 letters) k d ≡ 0 + k = get_or-range_with_len 0 letters k d few in
      omega (arith, at, few)

  starts_are : All IsStart (start_forms letters start)
  starts_are =
      All-push IsStart (map start_behind (range_with_len 0 letters)) (record { left = 62; symbols = Nonterminal (start + 31) ∷ [] })
      (All-map IsStart start_behind (range_with_len 0 letters) (All-weaker (λ a. a < letters) (λ a. IsStart (start_behind a)) behind_is (range_with_len 0 letters) range_below))
      (record { left = refl; symbols = inr refl })

  letter_there : (a : ℕ) → a < letters → Contains (start_forms letters start) (start_behind a)
  letter_there a lt =
      Contains-append_left (map start_behind (range_with_len 0 letters)) (record { left = 62; symbols = Nonterminal (start + 31) ∷ [] } ∷ []) (start_behind a)
      (a, omega (arith, lt, length-map-range_with_len start_behind 0 letters), get_or-map-range_with_len start_behind 0 letters a a (start_behind a) lt (omega arith))

  old_there : Contains (start_forms letters start) (record { left = 62; symbols = Nonterminal (start + 31) ∷ [] })
  old_there = Contains-push (map start_behind (range_with_len 0 letters)) (record { left = 62; symbols = Nonterminal (start + 31) ∷ [] })

-- ---- the whole

no_letters : (word : List ℕ) → All (IsBitSet 0) word → word ≡ []
no_letters [] h = refl
no_letters (a ∷ word) h = absurd (omega (arith, eqb-true _ _ (bit_of 0 a (All-head (IsBitSet 0) a word h)), bit_at-zero a))

spelled_none : (ps : List Production) {symbols : List GrammarSymbol} {word : List ℕ} → Trees ps symbols word → symbols ≡ [] → word ≡ []
spelled_none ps no_tree none = refl
spelled_none ps (leaf a t) none = absurd (cc (none))
spelled_none ps (node n below first rest p is inner t) none = absurd (cc (none))

module _ (g : GrammarDefinition) (empty letters : ℕ) (exact : (n : ℕ) → IsBitSet empty n ↔ DerivesOf g.productions 0 n) (within : IsWithin 31 g) where
  abbrev old : List Production
  old = g.productions

  abbrev seconds : List Production
  seconds = all_second_forms empty g.productions

  abbrev starts : List Production
  starts = start_forms letters g.start

  abbrev new : List Production
  new = suffixed_productions empty letters g

  -- ---- which productions there are

  old_in : (p : Production) → Contains old p → Contains new p
  old_in p h = Contains-append_left (old ++ seconds) starts p (Contains-append_left old seconds p h)

  second_in : (m : ℕ) (below made : List GrammarSymbol) → Contains old (record { left = m; symbols = below }) → IsSecond empty below made → Contains new (record { left = m + 31; symbols = made })
  second_in m below made h k =
      let p : Production = record { left = m + 31; symbols = made } in
      Contains-append_left (old ++ seconds) starts p (Contains-append_right old seconds p (all_there empty old (record { left = m; symbols = below }) made h k))

  start_in : (p : Production) → Contains starts p → Contains new p
  start_in p h = Contains-append_right (old ++ seconds) starts p h

  is_within : (p : Production) → Contains old p → IsProductionWithin 31 p
  is_within p h = All-contains (IsProductionWithin 31) old p within.productions h

  is_start : (p : Production) → Contains starts p → IsStart letters g.start p
  is_start p h = All-contains (IsStart letters g.start) starts p (starts_are letters g.start) h

  new_old : (n : ℕ) (below : List GrammarSymbol) → n < 31 → Contains new (record { left = n; symbols = below }) → Contains old (record { left = n; symbols = below }) × AreFirst below
  new_old n below lt h =
      let p : Production = record { left = n; symbols = below } in
      elim (Contains-append_cases (old ++ seconds) starts p h) [
        | inl some ↦ elim (Contains-append_cases old seconds p some) [
          | inl own ↦ (own, (is_within p own).symbols)
          | inr form ↦ let s = all_are empty old p form in absurd (omega (arith, lt, s.2))
        ]
        | inr last ↦ absurd (omega (arith, lt, (is_start p last).left))
      ]

  new_second : (m : ℕ) (made : List GrammarSymbol) → m < 31 → Contains new (record { left = m + 31; symbols = made }) → (below : List GrammarSymbol) × Contains old (record { left = m; symbols = below }) × IsSecond empty below made × AreFirst below
  new_second m made lt h =
      let p : Production = record { left = m + 31; symbols = made } in
      elim (Contains-append_cases (old ++ seconds) starts p h) [
        | inl some ↦ elim (Contains-append_cases old seconds p some) [
          | inl own ↦ absurd (omega (arith, (is_within p own).left))
          | inr form ↦
              let s = all_are empty old p form in
              let same : s.0.left ≡ m = omega (arith, s.2) in
              (s.0.symbols, subst (λ (i : ℕ). Contains old (record { left = i; symbols = s.0.symbols })) same s.1, s.3, (is_within s.0 s.1).symbols)
        ]
        | inr last ↦ absurd (omega (arith, lt, (is_start p last).left))
      ]

  new_start : (below : List GrammarSymbol) → Contains new (record { left = 62; symbols = below }) → Begins letters g.start below
  new_start below h =
      let p : Production = record { left = 62; symbols = below } in
      elim (Contains-append_cases (old ++ seconds) starts p h) [
        | inl some ↦ elim (Contains-append_cases old seconds p some) [
          | inl own ↦ absurd (omega (arith, (is_within p own).left))
          | inr form ↦ let s = all_are empty old p form in absurd (omega (arith, s.2, (is_within s.0 s.1).left))
        ]
        | inr last ↦ (is_start p last).symbols
      ]

  -- ---- which nonterminals spell the empty word

  empty_known : (n : ℕ) → Trees old (Nonterminal n ∷ []) [] → has_bit empty n ≡ true
  empty_known n t = bit_of empty n ((exact n).1 ([], All-nil (IsBitSet 0), t))

  empty_spelled : (n : ℕ) → has_bit empty n ≡ true → Trees old (Nonterminal n ∷ []) []
  empty_spelled n h =
      let d = (exact n).0 (of_bit empty n h) in
      subst (λ (w : List ℕ). Trees old (Nonterminal n ∷ []) w) (no_letters d.0 d.1) d.2

  -- ---- a word of the new start ends in one of the old

  data IsBegun (symbols : List GrammarSymbol) : Type 0 where
    at_old : symbols ≡ Nonterminal (g.start + 31) ∷ [] → IsBegun symbols
    at_letter : (a : LetterType) → symbols ≡ Letter a ∷ Nonterminal 62 ∷ [] → IsBegun symbols
    at_start : symbols ≡ Nonterminal 62 ∷ [] → IsBegun symbols

  begun : (symbols : List GrammarSymbol) → Begins letters g.start symbols → IsBegun symbols
  begun symbols (inl h) = at_letter h.0 h.2
  begun symbols (inr h) = at_old h

  ends_in : {symbols : List GrammarSymbol} {word : List ℕ} → Trees new symbols word → IsBegun symbols → EndsIn (IsWord g) word
  ends_in {symbols} {word} t (at_old e) =
      let first : AreFirst (Nonterminal g.start ∷ []) = All-cons (IsSymbolWithin 31) (Nonterminal g.start) [] within.start (All-nil (IsSymbolWithin 31)) in
      let own = sound_second old new empty new_old new_second empty_spelled (subst (λ (l : List GrammarSymbol). Trees new l word) e t) (Nonterminal g.start ∷ []) (here refl) first in
      ([], word, refl, own.1, own.0)
  ends_in no_tree (at_letter a e) = absurd (cc (e))
  ends_in no_tree (at_start e) = absurd (cc (e))
  ends_in (leaf {symbols = others} {word = word} b t) (at_letter a e) =
      let rest : others ≡ Nonterminal 62 ∷ [] = cc (e) in
      let more = ends_in t (at_start rest) in
      (b.0 ∷ more.0, more.1, ap (λ (w : List ℕ). b.0 ∷ w) more.2, more.3, more.4)
  ends_in (leaf b t) (at_start e) = absurd (cc (e))
  ends_in (node n below first rest p is inner t) (at_letter a e) = absurd (cc (e))
  ends_in (node {symbols = others} {word = word} n below first rest p is inner t) (at_start e) =
      let left : n ≡ 62 = cc (e) in
      let none : others ≡ [] = cc (e) in
      let more = ends_in inner (begun below (new_start below (subst (λ (i : ℕ). Contains new (record { left = i; symbols = below })) left p))) in
      let whole : word ≡ first = is ∙ ap (λ (r : List ℕ). first ++ r) (spelled_none new t none) ∙ append-nil first in
      (more.0, more.1, whole ∙ more.2, more.3, more.4)

  -- ---- and a word that ends in one of the old is one of the new start

  old_form : (made : List GrammarSymbol) → IsSecond empty (Nonterminal g.start ∷ []) made → made ≡ Nonterminal (g.start + 31) ∷ []
  old_form made (here is) = is
  old_form made (later nullable k) = elim k [ ]

  begins_anywhere : (front back : List ℕ) → All (λ a. a < letters) front → back ≢ [] → IsWord g back → Derives new 62 (front ++ back)
  begins_anywhere [] back all some own =
      let form = completed old new empty old_in second_in empty_known own some in
      let t = subst (λ (l : List GrammarSymbol). Trees new l back) (old_form form.0 form.1) form.2 in
      node 62 (Nonterminal (g.start + 31) ∷ []) back [] (start_in _ (old_there letters g.start)) (sym (append-nil back)) t no_tree
  begins_anywhere (a ∷ front) back all some own =
      let more = begins_anywhere front back (All-tail (λ a. a < letters) a front all) some own in
      let lt : a < letters = All-head (λ a. a < letters) a front all in
      node 62 (Letter (record { 0 = a }) ∷ Nonterminal 62 ∷ []) (a ∷ (front ++ back)) [] (start_in _ (letter_there letters g.start a lt)) (sym (append-nil (a ∷ (front ++ back)))) (leaf (record { 0 = a }) more) no_tree

  all_front : (front back : List ℕ) → All (λ a. a < letters) (front ++ back) → All (λ a. a < letters) front
  all_front [] back h = All-nil (λ a. a < letters)
  all_front (a ∷ front) back h = All-cons (λ a. a < letters) a front (All-head (λ a. a < letters) a (front ++ back) h) (all_front front back (All-tail (λ a. a < letters) a (front ++ back) h))

  same_words : (word : List ℕ) → All (λ a. a < letters) word → Derives new 62 word ↔ EndsIn (IsWord g) word
  same_words word all = (
    λ t. ends_in t (at_start refl),
    λ h. subst (λ (w : List ℕ). Derives new 62 w) (sym h.2) (begins_anywhere h.0 h.1 (all_front h.0 h.1 (subst (λ (w : List ℕ). All (λ a. a < letters) w) h.2 all)) h.3 h.4),
  )

  -- ---- the numbers

  module _ (below : AreBelow g.productions letters) (most : letters ≤ 32) where
    abbrev IsOwn : GrammarSymbol → Type 0
    IsOwn s = IsSymbolWithin 31 s × IsBelow letters s

    abbrev IsMade : GrammarSymbol → Type 0
    IsMade s = IsSmallSymbol s × IsBelow letters s

    own_made : (s : GrammarSymbol) → IsOwn s → IsMade s
    own_made (Letter a) h = (omega (arith, most, h.1), h.1)
    own_made (Nonterminal n) h = (omega (arith, h.0), tt)

    second_made : (s : GrammarSymbol) → IsOwn s → IsMade (second s)
    second_made (Letter a) h = (omega (arith, most, h.1), h.1)
    second_made (Nonterminal n) h = (omega (arith, h.0), tt)

    record IsMadeOf (p : Production) : Type 0 where
      left : p.left < 64
      symbols : All IsMade p.symbols

    own_symbols : (p : Production) → Contains old p → All IsOwn p.symbols
    own_symbols p h = λ k d lt. ((is_within p h).symbols k d lt, All-contains (λ (q : Production). All (IsBelow letters) q.symbols) old p below h k d lt)

    begins_made : (symbols : List GrammarSymbol) → Begins letters g.start symbols → All IsMade symbols
    begins_made symbols (inl h) =
        subst (λ (l : List GrammarSymbol). All IsMade l) (sym h.2)
        (All-cons IsMade (Letter h.0) (Nonterminal 62 ∷ []) (omega (arith, most, h.1), h.1) (All-cons IsMade (Nonterminal 62) [] (omega arith, tt) (All-nil IsMade)))
    begins_made symbols (inr e) =
        let lt : g.start < 31 = within.start in
        subst (λ (l : List GrammarSymbol). All IsMade l) (sym e) (All-cons IsMade (Nonterminal (g.start + 31)) [] (omega (arith, lt), tt) (All-nil IsMade))

    made_of : (p : Production) → Contains new p → IsMadeOf p
    made_of p h =
        elim (Contains-append_cases (old ++ seconds) starts p h) [
          | inl some ↦ elim (Contains-append_cases old seconds p some) [
            | inl own ↦ record { left = omega (arith, (is_within p own).left); symbols = All-weaker IsOwn IsMade own_made p.symbols (own_symbols p own) }
            | inr form ↦
                let s = all_are empty old p form in
                record { left = omega (arith, s.2, (is_within s.0 s.1).left); symbols = second_all empty IsOwn IsMade own_made second_made s.3 (own_symbols s.0 s.1) }
          ]
          | inr last ↦
              let s = is_start p last in
              record { left = omega (arith, s.left); symbols = begins_made p.symbols s.symbols }
        ]

    pub small_numbers : All HasSmallNumbers new
    small_numbers = all_of HasSmallNumbers new (λ p h. let made = made_of p h in record { left = made.left; symbols = All-weaker IsMade IsSmallSymbol (λ s m. m.0) p.symbols made.symbols })

    pub still_below : AreBelow new letters
    still_below = all_of (λ (p : Production). All (IsBelow letters) p.symbols) new (λ p h. All-weaker IsMade (IsBelow letters) (λ s m. m.1) p.symbols (made_of p h).symbols)

    -- ---- all words

    letters_below : {symbols : List GrammarSymbol} {word : List ℕ} → Trees new symbols word → All (IsBelow letters) symbols → All (λ (a : ℕ). a < letters) word
    letters_below no_tree h = All-nil (λ (a : ℕ). a < letters)
    letters_below (leaf {symbols = symbols} {word = word} a t) h =
        All-cons (λ (x : ℕ). x < letters) a.0 word (All-head (IsBelow letters) (Letter a) symbols h) (letters_below t (All-tail (IsBelow letters) (Letter a) symbols h))
    letters_below (node {symbols = symbols} n under first rest p is inner t) h =
        subst (λ (l : List ℕ). All (λ (a : ℕ). a < letters) l) (sym is) (All-append (λ (a : ℕ). a < letters) first rest
        (letters_below inner (All-contains (λ (q : Production). All (IsBelow letters) q.symbols) new (record { left = n; symbols = under }) still_below p))
        (letters_below t (All-tail (IsBelow letters) (Nonterminal n) symbols h)))

    pub all_words : (word : List ℕ) → Derives new 62 word ↔ (All (λ letter. letter < letters) word × EndsIn (IsWord g) word)
    all_words word = (
      λ t. (letters_below t (All-cons (IsBelow letters) (Nonterminal 62) [] tt (All-nil (IsBelow letters))), ends_in t (at_start refl)),
      λ h. (same_words word h.0).1 h.1,
    )
