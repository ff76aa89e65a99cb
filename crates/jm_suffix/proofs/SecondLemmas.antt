-- Second forms spell exactly the words, of a letter or more, of what they are forms of.
use Rattle.std.proofs.Common.{◌≡◌, ◌≢◌, ◌<◌, ◌+◌, ℕ, true, List, [], ◌∷◌, ◌++◌, All, Contains, refl, sym, ◌∙◌, subst}
use Rattle.std.proofs.lemmas.List.Elements.{All-head, All-tail}
use mathlib.Core.Bool.{true≢false}
use Rattle.jm_model.specs.declared.step.Letter.{Letter as LetterType}
use Rattle.jm_grammar.specs.declared.grammar.GrammarSymbol.{GrammarSymbol}
use Rattle.jm_grammar.specs.declared.grammar.GrammarSymbol.TheVariants.{Letter, Nonterminal}
use Rattle.jm_grammar.specs.declared.grammar.Production.{Production}
use Rattle.jm_grammar.specs.Grammars.{IsSymbolWithin}
use Rattle.jm_grammar.specs.Meanings.{Trees, no_tree, leaf, node}
use Rattle.jm_grammar.specs.Rounds.{has_bit}
use Rattle.jm_suffix.specs.Seconds.{second, can_be_empty}

-- the symbols of a second form's production: the second form of a symbol whose earlier symbols can all be empty, and
-- what stands after it
pub data IsSecond (empty : ℕ) : List GrammarSymbol → List GrammarSymbol → Type 0 where
  here : {s : GrammarSymbol} {symbols made : List GrammarSymbol} → made ≡ second s ∷ symbols → IsSecond empty (s ∷ symbols) made
  later : {s : GrammarSymbol} {symbols made : List GrammarSymbol} → can_be_empty empty s ≡ true → IsSecond empty symbols made → IsSecond empty (s ∷ symbols) made

module _ (ps qs : List Production) (empty : ℕ)
    (old_in : (p : Production) → Contains ps p → Contains qs p)
    (second_in : (m : ℕ) (below made : List GrammarSymbol) → Contains ps (record { left = m; symbols = below }) → IsSecond empty below made → Contains qs (record { left = m + 31; symbols = made }))
    (empty_known : (n : ℕ) → Trees ps (Nonterminal n ∷ []) [] → has_bit empty n ≡ true) where
  embed : {symbols : List GrammarSymbol} {word : List ℕ} → Trees ps symbols word → Trees qs symbols word
  embed no_tree = no_tree
  embed (leaf a t) = leaf a (embed t)
  embed (node n below first rest p is inner t) = node n below first rest (old_in _ p) is (embed inner) (embed t)

  -- trees of a word with a letter give trees of a second form
  pub completed : {symbols : List GrammarSymbol} {word : List ℕ} → Trees ps symbols word → word ≢ [] → (made : List GrammarSymbol) × IsSecond empty symbols made × Trees qs made word
  completed no_tree some = absurd (some refl)
  completed (leaf {symbols = symbols} a t) some = (Letter a ∷ symbols, here refl, leaf a (embed t))
  completed (node m below [] rest p is inner t) some =
      let nullable : has_bit empty m ≡ true = empty_known m (node m below [] [] p refl inner no_tree) in
      let more = completed t (λ (z : rest ≡ []). some (is ∙ z)) in
      (more.0, later nullable more.1, subst (λ (w : List ℕ). Trees qs more.0 w) (sym is) more.2)
  completed (node {symbols = symbols} m below (c ∷ cs) rest p is inner t) some =
      let none : c ∷ cs ≢ [] = λ (z : c ∷ cs ≡ []). absurd (cc (z)) in
      let under = completed inner none in
      (Nonterminal (m + 31) ∷ symbols, here refl, node (m + 31) under.0 (c ∷ cs) rest (second_in m below under.0 p under.1) is under.2 (embed t))

-- the symbols are of the first forms
abbrev pub AreFirst : List GrammarSymbol → Type 0
AreFirst symbols = All (IsSymbolWithin 31) symbols

module _ (ps qs : List Production) (empty : ℕ)
    (new_old : (n : ℕ) (below : List GrammarSymbol) → n < 31 → Contains qs (record { left = n; symbols = below }) → Contains ps (record { left = n; symbols = below }) × AreFirst below)
    (new_second : (m : ℕ) (made : List GrammarSymbol) → m < 31 → Contains qs (record { left = m + 31; symbols = made }) → (below : List GrammarSymbol) × Contains ps (record { left = m; symbols = below }) × IsSecond empty below made × AreFirst below)
    (empty_spelled : (n : ℕ) → has_bit empty n ≡ true → Trees ps (Nonterminal n ∷ []) []) where
  sound : {symbols : List GrammarSymbol} {word : List ℕ} → Trees qs symbols word → AreFirst symbols → Trees ps symbols word
  sound no_tree h = no_tree
  sound (leaf {symbols = symbols} a t) h = leaf a (sound t (All-tail (IsSymbolWithin 31) (Letter a) symbols h))
  sound (node {symbols = symbols} n below first rest p is inner t) h =
      let q = new_old n below (All-head (IsSymbolWithin 31) (Nonterminal n) symbols h) p in
      node n below first rest q.0 is (sound inner q.1) (sound t (All-tail (IsSymbolWithin 31) (Nonterminal n) symbols h))

  front_empty : (xs ys : List ℕ) → xs ++ ys ≡ [] → xs ≡ []
  front_empty [] ys h = refl
  front_empty (x ∷ xs) ys h = absurd (cc (h))

  opened : {m : ℕ} {symbols : List GrammarSymbol} {word : List ℕ} → Trees ps (Nonterminal m ∷ symbols) word → word ≡ [] → (below : List GrammarSymbol) × Contains ps (record { left = m; symbols = below }) × Trees ps below []
  opened (node m below first rest p is inner t) none = (below, p, subst (λ (w : List ℕ). Trees ps below w) (front_empty first rest (sym is ∙ none)) inner)

  -- what is put in front of trees and can be empty spells nothing
  with_empty : (s : GrammarSymbol) (symbols : List GrammarSymbol) (w : List ℕ) → can_be_empty empty s ≡ true → Trees ps symbols w → Trees ps (s ∷ symbols) w
  with_empty (Letter a) symbols w e t = absurd (true≢false (sym e))
  with_empty (Nonterminal n) symbols w e t =
      let o = opened (empty_spelled n e) refl in
      node n o.0 [] w o.1 refl o.2 t

  no_letter : (xs ys word : List ℕ) → word ≡ xs ++ ys → xs ≢ [] → word ≢ []
  no_letter [] ys word is some none = some refl
  no_letter (x ∷ xs) ys word is some none = absurd (cc (is, none))

  -- trees of a second form are trees of what it is a form of, and spell a letter or more
  pub sound_second : {made : List GrammarSymbol} {word : List ℕ} → Trees qs made word → (below : List GrammarSymbol) → IsSecond empty below made → AreFirst below → Trees ps below word × (word ≢ [])
  sound_second {made} {word} t (s ∷ symbols) (later e k) h =
      let under = sound_second t symbols k (All-tail (IsSymbolWithin 31) s symbols h) in
      (with_empty s symbols word e under.0, under.1)
  sound_second t [] k h = elim k [ ]
  sound_second no_tree (s ∷ symbols) (here e) h = absurd (cc (e))
  sound_second (leaf {symbols = others} {word = word} a t) (Letter b ∷ symbols) (here e) h =
      let same : a ≡ b = cc (e) in
      let rest : others ≡ symbols = cc (e) in
      let first : AreFirst symbols = All-tail (IsSymbolWithin 31) (Letter b) symbols h in
      (subst (λ (l : LetterType). Trees ps (Letter l ∷ symbols) (a.0 ∷ word)) same (leaf a (sound (subst (λ (l : List GrammarSymbol). Trees qs l word) rest t) first)), λ (z : a.0 ∷ word ≡ []). absurd (cc (z)))
  sound_second (leaf a t) (Nonterminal k ∷ symbols) (here e) h = absurd (cc (e))
  sound_second (node n under first rest p is inner t) (Letter b ∷ symbols) (here e) h = absurd (cc (e))
  sound_second (node {symbols = others} {word = word} n under first rest p is inner t) (Nonterminal k ∷ symbols) (here e) h =
      let same : n ≡ k + 31 = cc (e) in
      let behind : others ≡ symbols = cc (e) in
      let small : k < 31 = All-head (IsSymbolWithin 31) (Nonterminal k) symbols h in
      let q = new_second k under small (subst (λ (i : ℕ). Contains qs (record { left = i; symbols = under })) same p) in
      let front = sound_second inner q.0 q.2 q.3 in
      let after : AreFirst symbols = All-tail (IsSymbolWithin 31) (Nonterminal k) symbols h in
      (node k q.0 first rest q.1 is front.0 (sound (subst (λ (l : List GrammarSymbol). Trees qs l rest) behind t) after), no_letter first rest word is front.1)
