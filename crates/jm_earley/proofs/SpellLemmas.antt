-- Which symbols spell words of some letters, and which spell words of one or more of them.
use Rattle.std.proofs.Common.{◌≡◌, ◌≢◌, ◌⊎◌, ◌↔◌, ℕ, ◌<◌, Bool, true, false, cond, List, [], ◌∷◌, ◌++◌, Contains, All, map, bit_or, fold, refl, sym, ap, subst, ◌∙◌, inl, inr, arith, append-nil}
use Rattle.std.specs.Prelude.{IsBitSet}
use Rattle.std.proofs.lemmas.Bool.{and_parts, and_from, or_cases as bool_cases, or_left, or_right, lt-ltb}
use Rattle.std.proofs.lemmas.List.Elements.{All-nil, All-cons, All-head, All-tail, All-append, All-contains, Contains-append_right, Contains-append_cases, Contains-push_cases}
use Rattle.jm_model.specs.declared.step.Letter.{Letter as LetterType}
use Rattle.jm_grammar.specs.declared.grammar.GrammarSymbol.{GrammarSymbol}
use Rattle.jm_grammar.specs.declared.grammar.GrammarSymbol.TheVariants.{Letter, Nonterminal}
use Rattle.jm_grammar.specs.declared.grammar.Production.{Production}
use Rattle.jm_grammar.specs.Grammars.{IsSmallSymbol, IsSmallProduction}
use Rattle.jm_grammar.specs.Meanings.{Trees, no_tree, leaf, node, Derives, DerivesOf}
use Rattle.jm_grammar.proofs.RoundLemmas.{bit_of, of_bit, trees_append, SpellAll}
use Rattle.jm_earley.specs.declared.rule.Rule.{Rule}
use Rattle.jm_earley.specs.declared.letter_set.LetterSet.{LetterSet}
use Rattle.jm_earley.specs.Rules.{only, IsGained, at_once, later}
use Rattle.jm_earley.specs.Continuations.{DerivesLetters}
use Rattle.jm_earley.specs.LetterSets.{IsExact, are_spelled, has_letter, with_nonterminal, nonterminals, can_spell, can_go_on, spelling_rule}
use Rattle.jm_earley.proofs.BitLemmas.{or_cases, or_l, or_r, none_set, meets_some, some_meets, only_same, only_only, has_set, set_has}

-- ---- lists

pub Contains-cons_cases : {X : Type 0} (y : X) (xs : List X) (x : X) → Contains (y ∷ xs) x → (y ≡ x) ⊎ Contains xs x
Contains-cons_cases y xs x h =
    elim (Contains-append_cases (y ∷ []) xs x h)
    [ inl one ↦ elim (Contains-push_cases [] y x one) [ inl none ↦ absurd (omega (arith, none.1)) | inr e ↦ inl e ] | inr rest ↦ inr rest ]

pub Contains-head : {X : Type 0} (xs : List X) (x : X) → Contains (x ∷ xs) x
Contains-head xs x = (0, omega arith, refl)

pub from_map : {X Y : Type 0} (f : X → Y) (xs : List X) (y : Y) → Contains (map f xs) y → (x : X) × Contains xs x × (f x ≡ y)
from_map f [] y h = absurd (omega (arith, h.1))
from_map f (x ∷ xs) y h = elim (Contains-cons_cases (f x) (map f xs) y h) [
  | inl e ↦ (x, Contains-head xs x, e)
  | inr rest ↦ let r = from_map f xs y rest in (r.0, Contains-append_right (x ∷ []) xs r.0 r.1, r.2)
]

pub to_map : {X Y : Type 0} (f : X → Y) (xs : List X) (x : X) → Contains xs x → Contains (map f xs) (f x)
to_map f [] x h = absurd (omega (arith, h.1))
to_map f (y ∷ xs) x h = elim (Contains-cons_cases y xs x h) [
  | inl e ↦ subst (λ z. Contains (f y ∷ map f xs) (f z)) e (Contains-head (map f xs) (f y))
  | inr rest ↦ Contains-append_right (f y ∷ []) (map f xs) (f x) (to_map f xs x rest)
]

pub All-back : {X : Type 0} (P : X → Type 0) (xs ys : List X) → All P (xs ++ ys) → All P ys
All-back P [] ys all = all
All-back P (x ∷ xs) ys all = All-back P xs ys (All-tail P x (xs ++ ys) all)

pub All-front : {X : Type 0} (P : X → Type 0) (xs ys : List X) → All P (xs ++ ys) → All P xs
All-front P [] ys all = All-nil P
All-front P (x ∷ xs) ys all = All-cons P x xs (All-head P x (xs ++ ys) all) (All-front P xs ys (All-tail P x (xs ++ ys) all))

pub none_or_some : (xs : List ℕ) → (xs ≡ []) ⊎ (xs ≢ [])
none_or_some [] = inl refl
none_or_some (x ∷ xs) = inr (λ e. cc)

pub some_front : (xs ys : List ℕ) → xs ≢ [] → xs ++ ys ≢ []
some_front [] ys some e = some refl
some_front (x ∷ xs) ys some e = cc

pub some_back : (xs ys : List ℕ) → ys ≢ [] → xs ++ ys ≢ []
some_back [] ys some e = some e
some_back (x ∷ xs) ys some e = cc

module _ (ps : List Production) (small : All IsSmallProduction ps) (letters : ℕ) where
  -- the symbols spell a word of one or more of the letters
  abbrev pub SpellLetters : List GrammarSymbol → Type 0
  SpellLetters symbols = (word : List ℕ) × All (IsBitSet letters) word × Trees ps symbols word × (word ≢ [])

  whole : (p : Production) (word : List ℕ) → Contains ps p → Trees ps p.symbols word → Derives ps p.left word
  whole p word there trees = node p.left p.symbols word [] there (sym (append-nil word)) trees no_tree

  module _ (known : ℕ) (exact : (n : ℕ) → IsBitSet known n ↔ DerivesOf ps letters n) where
    -- ---- words

    pub spelled_spell : (symbols : List GrammarSymbol) → are_spelled letters known symbols ≡ true → SpellAll ps letters symbols
    spelled_spell [] h = ([], All-nil (IsBitSet letters), no_tree)
    spelled_spell (Letter a ∷ symbols) h =
        let both = and_parts _ _ h in
        let one = and_parts _ _ both.0 in
        let rest = spelled_spell symbols both.1 in
        (a.0 ∷ rest.0, All-cons (IsBitSet letters) a.0 rest.0 (of_bit letters a.0 one.1) rest.1, leaf a rest.2)
    spelled_spell (Nonterminal n ∷ symbols) h =
        let both = and_parts _ _ h in
        let one = (exact n).0 (has_set known n both.0) in
        let rest = spelled_spell symbols both.1 in
        (one.0 ++ rest.0, All-append (IsBitSet letters) one.0 rest.0 one.1 rest.1, trees_append ps symbols rest.0 one.2 rest.2)

    pub trees_spelled : {symbols : List GrammarSymbol} {word : List ℕ} → Trees ps symbols word → All IsSmallSymbol symbols → All (IsBitSet letters) word → are_spelled letters known symbols ≡ true
    trees_spelled no_tree few h = refl
    trees_spelled (leaf {symbols = symbols} {word = word} a trees) few h =
        and_from _ _
        (and_from _ _ (lt-ltb a.0 32 (All-head IsSmallSymbol (Letter a) symbols few)) (bit_of letters a.0 (All-head (IsBitSet letters) a.0 word h)))
        (trees_spelled trees (All-tail IsSmallSymbol (Letter a) symbols few) (All-tail (IsBitSet letters) a.0 word h))
    trees_spelled (node {symbols = symbols} n below first rest there cut inner trees) few h =
        let parts : All (IsBitSet letters) (first ++ rest) = subst (λ (l : List ℕ). All (IsBitSet letters) l) cut h in
        let spells : IsBitSet known n = (exact n).1 (first, All-front (IsBitSet letters) first rest parts, whole (record { left = n; symbols = below }) first there inner) in
        and_from _ _ (set_has known n (All-head IsSmallSymbol (Nonterminal n) symbols few) spells)
        (trees_spelled trees (All-tail IsSmallSymbol (Nonterminal n) symbols few) (All-back (IsBitSet letters) first rest parts))

    -- ---- words of one or more letters

    behind_letter : (a : ℕ) (rest : List ℕ) → a ∷ rest ≢ []
    behind_letter a rest e = cc

    letter_spells : (symbols : List GrammarSymbol) → has_letter symbols ≡ true → are_spelled letters known symbols ≡ true → SpellLetters symbols
    letter_spells [] h all = absurd (cc)
    letter_spells (Letter a ∷ symbols) h all =
        let w = spelled_spell (Letter a ∷ symbols) all in
        let both = and_parts _ _ all in
        let one = and_parts _ _ both.0 in
        let rest = spelled_spell symbols both.1 in
        (a.0 ∷ rest.0, All-cons (IsBitSet letters) a.0 rest.0 (of_bit letters a.0 one.1) rest.1, leaf a rest.2, behind_letter a.0 rest.0)
    letter_spells (Nonterminal n ∷ symbols) h all =
        let both = and_parts _ _ all in
        let one = (exact n).0 (has_set known n both.0) in
        let rest = letter_spells symbols h both.1 in
        (one.0 ++ rest.0, All-append (IsBitSet letters) one.0 rest.0 one.1 rest.1, trees_append ps symbols rest.0 one.2 rest.2, some_back one.0 rest.0 rest.3)

    abbrev IsMore : ℕ → List GrammarSymbol → Type 0
    IsMore m symbols = are_spelled letters known symbols ≡ true → DerivesLetters ps letters m → SpellLetters symbols

    more_behind_letter : (m : ℕ) (a : LetterType) (symbols : List GrammarSymbol) → IsMore m symbols → IsMore m (Letter a ∷ symbols)
    more_behind_letter m a symbols more all goes_on =
        let both = and_parts _ _ all in
        let one = and_parts _ _ both.0 in
        let rest = more both.1 goes_on in
        (a.0 ∷ rest.0, All-cons (IsBitSet letters) a.0 rest.0 (of_bit letters a.0 one.1) rest.1, leaf a rest.2, behind_letter a.0 rest.0)

    more_behind : (m n : ℕ) (symbols : List GrammarSymbol) → IsMore m symbols → IsMore m (Nonterminal n ∷ symbols)
    more_behind m n symbols more all goes_on =
        let both = and_parts _ _ all in
        let one = (exact n).0 (has_set known n both.0) in
        let rest = more both.1 goes_on in
        (one.0 ++ rest.0, All-append (IsBitSet letters) one.0 rest.0 one.1 rest.1, trees_append ps symbols rest.0 one.2 rest.2, some_back one.0 rest.0 rest.3)

    more_here : (n : ℕ) (symbols : List GrammarSymbol) → IsMore n (Nonterminal n ∷ symbols)
    more_here n symbols all goes_on =
        let both = and_parts _ _ all in
        let rest = spelled_spell symbols both.1 in
        (goes_on.0 ++ rest.0, All-append (IsBitSet letters) goes_on.0 rest.0 goes_on.1 rest.1, trees_append ps symbols rest.0 goes_on.2 rest.2, some_front goes_on.0 rest.0 goes_on.3)

    among : (symbols : List GrammarSymbol) (before m : ℕ) → IsBitSet (fold with_nonterminal before symbols) m → IsBitSet before m ⊎ IsMore m symbols
    among [] before m h = inl h
    among (Letter a ∷ symbols) before m h = elim (among symbols before m h) [
      | inl old ↦ inl old
      | inr more ↦ inr (more_behind_letter m a symbols more)
    ]
    among (Nonterminal n ∷ symbols) before m h = elim (among symbols (bit_or before (only n)) m h) [
      | inl old ↦ elim (or_cases before (only n) m old) [
        | inl older ↦ inl older
        | inr new ↦ inr (subst (λ (k : ℕ). IsMore k (Nonterminal n ∷ symbols)) (sym (only_only n m new)) (more_here n symbols))
      ]
      | inr more ↦ inr (more_behind m n symbols more)
    ]

    pub one_spells : (symbols : List GrammarSymbol) (m : ℕ) → IsBitSet (nonterminals symbols) m → IsMore m symbols
    one_spells symbols m h = elim (among symbols 0 m h) [ inl none ↦ absurd (none_set m none) | inr more ↦ more ]

    -- ---- what the rules of the productions add

    abbrev pub spelling_rules : List Rule
    spelling_rules = map (spelling_rule letters known) ps

    abbrev rule_by : Bool → Production → Rule
    rule_by b p = cond b (record { gives = only p.left; any = nonterminals p.symbols; always = has_letter p.symbols }) (record { gives = 0; any = 0; always = false })

    -- a rule whose condition holds belongs to a production whose symbols spell
    always_spells : (p : Production) (b : Bool) → are_spelled letters known p.symbols ≡ b → (rule_by b p).always ≡ true → (n : ℕ) → IsBitSet (rule_by b p).gives n → SpellLetters p.symbols × (n ≡ p.left)
    always_spells p true all always n gives = (letter_spells p.symbols always all, only_only p.left n gives)
    always_spells p false all always n gives = absurd (none_set n gives)

    later_spells : (p : Production) (b : Bool) → are_spelled letters known p.symbols ≡ b → (m : ℕ) → IsBitSet (rule_by b p).any m → DerivesLetters ps letters m
        → (n : ℕ) → IsBitSet (rule_by b p).gives n → SpellLetters p.symbols × (n ≡ p.left)
    later_spells p true all m any goes_on n gives = (one_spells p.symbols m any all goes_on, only_only p.left n gives)
    later_spells p false all m any goes_on n gives = absurd (none_set n gives)

    derives : (p : Production) → Contains ps p → (n : ℕ) → SpellLetters p.symbols × (n ≡ p.left) → DerivesLetters ps letters n
    derives p there n h = subst (λ (k : ℕ). DerivesLetters ps letters k) (sym h.1) (h.0.0, h.0.1, whole p h.0.0 there h.0.2, h.0.3)

    pub gained_derives : {n : ℕ} → IsGained spelling_rules n → DerivesLetters ps letters n
    gained_derives (at_once r n there always gives) =
        let from = from_map (spelling_rule letters known) ps r there in
        let p = from.0 in
        derives p from.1 n (always_spells p (are_spelled letters known p.symbols) refl (ap (λ (q : Rule). q.always) from.2 ∙ always) n (subst (λ (q : Rule). IsBitSet q.gives n) (sym from.2) gives))
    gained_derives (later r m n there any before gives) =
        let from = from_map (spelling_rule letters known) ps r there in
        let p = from.0 in
        derives p from.1 n (later_spells p (are_spelled letters known p.symbols) refl m (subst (λ (q : Rule). IsBitSet q.any m) (sym from.2) any) (gained_derives before) n (subst (λ (q : Rule). IsBitSet q.gives n) (sym from.2) gives))

    kept : (symbols : List GrammarSymbol) (before m : ℕ) → IsBitSet before m → IsBitSet (fold with_nonterminal before symbols) m
    kept [] before m h = h
    kept (Letter a ∷ symbols) before m h = kept symbols before m h
    kept (Nonterminal n ∷ symbols) before m h = kept symbols (bit_or before (only n)) m (or_l before (only n) m h)

    abbrev pub IsGoing : ℕ → List GrammarSymbol → Type 0
    IsGoing before symbols = (has_letter symbols ≡ true) ⊎ ((m : ℕ) × IsBitSet (fold with_nonterminal before symbols) m × IsGained spelling_rules m)

    rule_is : (p : Production) → are_spelled letters known p.symbols ≡ true → spelling_rule letters known p ≡ rule_by true p
    rule_is p all = ap (λ b. rule_by b p) all

    left_gained : (p : Production) → Contains ps p → are_spelled letters known p.symbols ≡ true → IsGoing 0 p.symbols → IsGained spelling_rules p.left
    left_gained p there all going =
        let rule : Contains spelling_rules (rule_by true p) = subst (λ (r : Rule). Contains spelling_rules r) (rule_is p all) (to_map (spelling_rule letters known) ps p there) in
        let gives : IsBitSet (only p.left) p.left = only_same p.left (All-contains IsSmallProduction ps p small there).left in
        elim going [
          | inl letter ↦ at_once (rule_by true p) p.left rule letter gives
          | inr one ↦ later (rule_by true p) one.0 p.left rule one.1 one.2 gives
        ]

    pub trees_going : {symbols : List GrammarSymbol} {word : List ℕ} → Trees ps symbols word → All IsSmallSymbol symbols → All (IsBitSet letters) word → word ≢ [] → (before : ℕ) → IsGoing before symbols
    trees_going no_tree few h some before = absurd (some refl)
    trees_going (leaf a trees) few h some before = inl refl
    trees_going (node {symbols = symbols} n below first rest there cut inner trees) few h some before =
        let parts : All (IsBitSet letters) (first ++ rest) = subst (λ (l : List ℕ). All (IsBitSet letters) l) cut h in
        let front = All-front (IsBitSet letters) first rest parts in
        let back = All-back (IsBitSet letters) first rest parts in
        let p : Production = record { left = n; symbols = below } in
        let below_few = (All-contains IsSmallProduction ps p small there).symbols in
        elim (none_or_some first) [
          | inl none ↦
              let others = λ (e : rest ≡ []). some (cut ∙ ap (λ (l : List ℕ). l ++ rest) none ∙ e) in
              elim (trees_going trees (All-tail IsSmallSymbol (Nonterminal n) symbols few) back others (bit_or before (only n))) [ inl letter ↦ inl letter | inr one ↦ inr one ]
          | inr one ↦
              let gained = left_gained p there (trees_spelled inner below_few front) (trees_going inner below_few front one 0) in
              let bit : IsBitSet (bit_or before (only n)) n = or_r before (only n) n (only_same n (All-head IsSmallSymbol (Nonterminal n) symbols few)) in
              inr (n, kept symbols (bit_or before (only n)) n bit, gained)
        ]

    pub derives_gained : (n : ℕ) → n < 64 → DerivesLetters ps letters n → IsGained spelling_rules n
    derives_gained n lt h =
        let one : All IsSmallSymbol (Nonterminal n ∷ []) = All-cons IsSmallSymbol (Nonterminal n) [] lt (All-nil IsSmallSymbol) in
        elim (trees_going h.2 one h.1 h.3 0) [
          | inl letter ↦ absurd (cc)
          | inr one ↦ elim (or_cases 0 (only n) one.0 one.1) [
            | inl none ↦ absurd (none_set one.0 none)
            | inr is ↦ subst (λ (k : ℕ). IsGained spelling_rules k) (only_only n one.0 is) one.2
          ]
        ]

    left_small : {symbols : List GrammarSymbol} {word : List ℕ} → Trees ps symbols word → (n : ℕ) → symbols ≡ Nonterminal n ∷ [] → n < 64
    left_small no_tree n e = absurd (cc)
    left_small (leaf a trees) n e = absurd (cc)
    left_small (node m below first rest there cut inner trees) n e =
        let same : m ≡ n = cc in
        subst (λ (k : ℕ). k < 64) same (All-contains IsSmallProduction ps (record { left = m; symbols = below }) small there).left

    pub goes_on_exact : (n : ℕ) → IsGained spelling_rules n ↔ DerivesLetters ps letters n
    goes_on_exact n = (λ h. gained_derives h, λ d. derives_gained n (left_small d.2 n refl) d)

-- ---- of a set of letters

pub set_exact : (ps : List Production) → All IsSmallProduction ps → (set : LetterSet) → ((n : ℕ) → IsBitSet set.spells n ↔ DerivesOf ps set.letters n)
    → ((n : ℕ) → IsBitSet set.goes_on n ↔ IsGained (map (spelling_rule set.letters set.spells) ps) n) → IsExact ps set
set_exact ps small set spells gained = record {
  spells = spells;
  goes_on = λ n. let e = goes_on_exact ps small set.letters set.spells spells n in (λ h. e.0 ((gained n).0 h), λ d. (gained n).1 (e.1 d));
}

module _ (ps : List Production) (small : All IsSmallProduction ps) (set : LetterSet) (exact : IsExact ps set) where
  pub can_spells : (symbols : List GrammarSymbol) → can_spell set symbols ≡ true → SpellAll ps set.letters symbols
  can_spells symbols h = spelled_spell ps small set.letters set.spells exact.spells symbols h

  pub spells_can : (symbols : List GrammarSymbol) (word : List ℕ) → Trees ps symbols word → All IsSmallSymbol symbols → All (IsBitSet set.letters) word → can_spell set symbols ≡ true
  spells_can symbols word trees few h = trees_spelled ps small set.letters set.spells exact.spells trees few h

  pub can_goes_on : (symbols : List GrammarSymbol) → can_spell set symbols ≡ true → can_go_on set symbols ≡ true → SpellLetters ps small set.letters symbols
  can_goes_on symbols all h = elim (bool_cases _ _ h) [
    | inl letter ↦ letter_spells ps small set.letters set.spells exact.spells symbols letter all
    | inr met ↦
        let m = meets_some (nonterminals symbols) set.goes_on met in
        one_spells ps small set.letters set.spells exact.spells symbols m.0 m.1 all ((exact.goes_on m.0).0 m.2)
  ]

  pub goes_on_can : (symbols : List GrammarSymbol) (word : List ℕ) → Trees ps symbols word → All IsSmallSymbol symbols → All (IsBitSet set.letters) word → word ≢ [] → can_go_on set symbols ≡ true
  goes_on_can symbols word trees few h some = elim (trees_going ps small set.letters set.spells exact.spells trees few h some 0) [
    | inl letter ↦ or_left _ _ letter
    | inr one ↦ or_right _ _ (some_meets (nonterminals symbols) set.goes_on one.0 one.1
        ((exact.goes_on one.0).1 ((goes_on_exact ps small set.letters set.spells exact.spells one.0).0 one.2)))
  ]
