-- The productions whose symbols all spell a word spell the same words.
use Rattle.std.proofs.Common.{◌≡◌, ◌⊎◌, ◌↔◌, ℕ, ◌<◌, ◌≤◌, Bool, true, List, [], ◌∷◌, length, Contains, All, filter, refl, sym, ap, subst, ◌∙◌, inl, inr, arith, append-nil}
use Rattle.std.specs.Prelude.{IsBitSet}
use Rattle.std.specs.Int.{bit_at}
use Rattle.std.proofs.lemmas.Bool.{cases_Bool}
use Rattle.std.proofs.lemmas.List.Sums.{AllPass-from_list_all}
use Rattle.std.proofs.lemmas.Nat.Bits.{bit_at_ones}
use Rattle.std.proofs.lemmas.List.Elements.{All-nil, All-cons, All-head, All-tail, All-append, All-contains, All-filter, filter_passes, Contains-append_right, Contains-append_cases, Contains-push_cases}
use Rattle.jm_grammar.specs.declared.grammar.GrammarSymbol.{GrammarSymbol}
use Rattle.jm_grammar.specs.declared.grammar.GrammarSymbol.TheVariants.{Letter, Nonterminal}
use Rattle.jm_grammar.specs.declared.grammar.Production.{Production}
use Rattle.jm_grammar.specs.Grammars.{IsSmallSymbol, IsSmallProduction, IsSmall}
use Rattle.jm_grammar.specs.Meanings.{Trees, no_tree, leaf, node, Derives, DerivesOf, DerivesSome, IsIn}
use Rattle.jm_grammar.specs.Rounds.{is_known, are_known}
use Rattle.jm_grammar.proofs.RoundLemmas.{bit_of, of_bit, IsSound, IsClosed, known_spell, production_spells, trees_known}

-- ---- what a filter keeps

Contains-cons_cases : {X : Type 0} (y : X) (xs : List X) (x : X) → Contains (y ∷ xs) x → (y ≡ x) ⊎ Contains xs x
Contains-cons_cases y xs x h =
    elim (Contains-append_cases (y ∷ []) xs x h)
    [ inl one ↦ elim (Contains-push_cases [] y x one) [ inl none ↦ absurd (omega (arith, none.1)) | inr e ↦ inl e ] | inr rest ↦ inr rest ]

Contains-head : {X : Type 0} (xs : List X) (x : X) → Contains (x ∷ xs) x
Contains-head xs x = (0, omega arith, refl)

kept_is_there : {X : Type 0} (p : X → Bool) (xs : List X) (x : X) → Contains (filter p xs) x → Contains xs x
kept_is_there p [] x h = h
kept_is_there p (y ∷ xs) x h =
    elim (cases_Bool (p y)) [
      | inl passed ↦ let k : Contains (y ∷ filter p xs) x = rw passed at h in
          elim (Contains-cons_cases y (filter p xs) x k)
          [ inl e ↦ subst (λ z. Contains (y ∷ xs) z) e (Contains-head xs y) | inr rest ↦ Contains-append_right (y ∷ []) xs x (kept_is_there p xs x rest) ]
      | inr failed ↦ let k : Contains (filter p xs) x = rw failed at h in Contains-append_right (y ∷ []) xs x (kept_is_there p xs x k)
    ]

passing_is_kept : {X : Type 0} (p : X → Bool) (xs : List X) (x : X) → Contains xs x → p x ≡ true → Contains (filter p xs) x
passing_is_kept p [] x h passes = h
passing_is_kept p (y ∷ xs) x h passes =
    elim (Contains-cons_cases y xs x h) [
      | inl e ↦ let passed : p y ≡ true = ap p e ∙ passes in rw passed (subst (λ z. Contains (y ∷ filter p xs) z) e (Contains-head (filter p xs) y))
      | inr rest ↦ elim (cases_Bool (p y)) [
        | inl passed ↦ rw passed (Contains-append_right (y ∷ []) (filter p xs) x (passing_is_kept p xs x rest passes))
        | inr failed ↦ rw failed (passing_is_kept p xs x rest passes)
      ]
    ]

filter_few : {X : Type 0} (p : X → Bool) (xs : List X) → length (filter p xs) ≤ length xs
filter_few p [] = omega arith
filter_few p (x ∷ xs) = elim (cases_Bool (p x)) [
  | inl passed ↦ rw passed (omega (arith, filter_few p xs))
  | inr failed ↦ rw failed (omega (arith, filter_few p xs))
]

-- ---- trees

-- trees of productions that are among others
trees_among : (ps qs : List Production) → ((p : Production) → Contains ps p → Contains qs p) → {symbols : List GrammarSymbol} {word : List ℕ} → Trees ps symbols word → Trees qs symbols word
trees_among ps qs among no_tree = no_tree
trees_among ps qs among (leaf letter trees) = leaf letter (trees_among ps qs among trees)
trees_among ps qs among (node n below first rest there cut inner trees) =
    node n below first rest (among (record { left = n; symbols = below }) there) cut (trees_among ps qs among inner) (trees_among ps qs among trees)

module _ (ps : List Production) (small : All IsSmallProduction ps) where
  abbrev every : ℕ
  every = 4294967295

  small_bit : (k : ℕ) → k < 32 → IsBitSet every k
  small_bit k lt = of_bit every k (let one : bit_at every k ≡ 1 = bit_at_ones 32 k lt in rw one refl)

  -- the leaves of trees are letters
  leaves : {symbols : List GrammarSymbol} {word : List ℕ} → Trees ps symbols word → All IsSmallSymbol symbols → All (IsBitSet every) word
  leaves no_tree h = All-nil (IsBitSet every)
  leaves (leaf {symbols = symbols} {word = word} letter trees) h =
      All-cons (IsBitSet every) letter.0 word (small_bit letter.0 (All-head IsSmallSymbol (Letter letter) symbols h)) (leaves trees (All-tail IsSmallSymbol (Letter letter) symbols h))
  leaves (node {symbols = symbols} n below first rest there cut inner trees) h =
      subst (λ (l : List ℕ). All (IsBitSet every) l) (sym cut) (All-append (IsBitSet every) first rest
      (leaves inner (All-contains IsSmallProduction ps (record { left = n; symbols = below }) small there).symbols)
      (leaves trees (All-tail IsSmallSymbol (Nonterminal n) symbols h)))

  module _ (known : ℕ) (exact : (n : ℕ) → IsBitSet known n ↔ DerivesOf ps every n) where
    abbrev is_kept : Production → Bool
    is_kept p = are_known every known p.symbols

    abbrev kept : List Production
    kept = filter is_kept ps

    sound : IsSound ps every known
    sound n h = (exact n).0 (of_bit known n h)

    closed : IsClosed ps every known
    closed p there h = bit_of known p.left ((exact p.left).1 (production_spells ps every p there (known_spell ps every known sound p.symbols h)))

    kept_among : (p : Production) → Contains kept p → Contains ps p
    kept_among = kept_is_there is_kept ps

    -- trees have only productions that are kept
    trees_kept : {symbols : List GrammarSymbol} {word : List ℕ} → Trees ps symbols word → Trees kept symbols word
    trees_kept no_tree = no_tree
    trees_kept (leaf letter trees) = leaf letter (trees_kept trees)
    trees_kept (node n below first rest there cut inner trees) =
        let p : Production = record { left = n; symbols = below } in
        let letters = leaves inner (All-contains IsSmallProduction ps p small there).symbols in
        node n below first rest (passing_is_kept is_kept ps p there (trees_known ps every known closed inner letters)) cut (trees_kept inner) (trees_kept trees)

    known_symbol : (symbols : List GrammarSymbol) (s : GrammarSymbol) → are_known every known symbols ≡ true → Contains symbols s → is_known every known s ≡ true
    known_symbol symbols s h there = All-contains (λ x. is_known every known x ≡ true) symbols s (AllPass-from_list_all (is_known every known) symbols h) there

    passes : (p : Production) → Contains kept p → is_kept p ≡ true
    passes p there = All-contains (λ q. is_kept q ≡ true) kept p (filter_passes is_kept ps) there

    left_derives : (p : Production) → Contains kept p → DerivesSome kept p.left
    left_derives p there =
        let all = known_spell ps every known sound p.symbols (passes p there) in
        (all.0, node p.left p.symbols all.0 [] there (sym (append-nil all.0)) (trees_kept all.2) no_tree)

    symbol_derives : (n : ℕ) (p : Production) → Contains kept p → Contains p.symbols (Nonterminal n) → DerivesSome kept n
    symbol_derives n p there inside = let s = sound n (known_symbol p.symbols (Nonterminal n) (passes p there) inside) in (s.0, trees_kept s.2)

    -- the productions that are kept, under another name
    module _ (items : List Production) (is : items ≡ kept) where
      pub same_words : (n : ℕ) (word : List ℕ) → Derives items n word ↔ Derives ps n word
      same_words n word = subst (λ (l : List Production). Derives l n word ↔ Derives ps n word) (sym is) (trees_among kept ps kept_among, trees_kept)

      pub kept_derive : (n : ℕ) → IsIn items n → DerivesSome items n
      kept_derive n = subst (λ (l : List Production). IsIn l n → DerivesSome l n) (sym is) (λ h. elim h.2 [
        | inl left ↦ subst (λ (k : ℕ). DerivesSome kept k) left (left_derives h.0 h.1)
        | inr inside ↦ symbol_derives n h.0 h.1 inside
      ])

      pub kept_are_there : (p : Production) → Contains items p → Contains ps p
      kept_are_there p = subst (λ (l : List Production). Contains l p → Contains ps p) (sym is) (kept_among p)

      pub kept_small : (start : ℕ) → IsSmall ps start → IsSmall items start
      kept_small start few = subst (λ (l : List Production). IsSmall l start) (sym is) (record {
        first = few.first;
        few = omega (arith, few.few, filter_few is_kept ps);
        each = All-filter is_kept IsSmallProduction ps few.each;
      })
