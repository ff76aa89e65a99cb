-- In a reduced grammar each item goes on to a word.
use Rattle.std.proofs.Common.{◌≡◌, ◌↔◌, ℕ, Bool, List, [], ◌∷◌, ◌++◌, length, drop, take, Contains, refl, sym, ap, subst, ◌∙◌, inr, arith, append_assoc, take-append-drop, ◌==◌}
use Rattle.std.specs.Prelude.{IsTrue}
use Rattle.std.proofs.lemmas.Bool.{eqb-true, eq-eqb}
use Rattle.std.proofs.lemmas.List.Elements.{Contains-append_right}
use Rattle.jm_grammar.specs.declared.grammar.GrammarSymbol.{GrammarSymbol}
use Rattle.jm_grammar.specs.declared.grammar.GrammarSymbol.TheVariants.{Letter, Nonterminal}
use Rattle.jm_grammar.specs.declared.grammar.Production.{Production}
use Rattle.jm_grammar.specs.Grammars.{GrammarDefinition}
use Rattle.jm_grammar.specs.Meanings.{Trees, no_tree, leaf, IsWord, IsHopeless, IsIn, DerivesSome}
use Rattle.jm_grammar.proofs.RoundLemmas.{trees_append}
use Rattle.jm_earley.specs.declared.item.Item.{Item}
use Rattle.jm_earley.specs.Items.{IsAwaited, at_start, inside, IsItem, IsItemSet}
use Rattle.jm_earley.specs.Continuations.{IsRest, at_end, within}
use Rattle.jm_earley.proofs.ExtensionLemmas.{item_production, continued, found}
use Rattle.jm_earley.proofs.SpellLemmas.{Contains-head}

module _ (g : GrammarDefinition) (reduced : (n : ℕ) → IsIn g.productions n → DerivesSome g.productions n) where
  abbrev ps : List Production
  ps = g.productions

  spell : (symbols : List GrammarSymbol) → ((n : ℕ) → Contains symbols (Nonterminal n) → IsIn ps n) → (word : List ℕ) × Trees ps symbols word
  spell [] are_in = ([], no_tree)
  spell (Letter a ∷ symbols) are_in =
      let rest = spell symbols (λ n h. are_in n (Contains-append_right (Letter a ∷ []) symbols (Nonterminal n) h)) in
      (a.0 ∷ rest.0, leaf a rest.1)
  spell (Nonterminal m ∷ symbols) are_in =
      let one = reduced m (are_in m (Contains-head symbols (Nonterminal m))) in
      let rest = spell symbols (λ n h. are_in n (Contains-append_right (Nonterminal m ∷ []) symbols (Nonterminal n) h)) in
      (one.0 ++ rest.0, trees_append ps symbols rest.0 one.1 rest.1)

  -- the back of a production spells a word
  back_spells : (p : Production) (front back : List GrammarSymbol) → Contains ps p → front ++ back ≡ p.symbols → (word : List ℕ) × Trees ps back word
  back_spells p front back there is = spell back (λ n h. (p, there, inr (subst (λ (s : List GrammarSymbol). Contains s (Nonterminal n)) is (Contains-append_right front back (Nonterminal n) h))))

  rest_of : {word : List ℕ} {n : ℕ} → IsAwaited ps g.start word n → (rest : List ℕ) × IsRest ps g.start word n rest
  rest_of at_start = ([], at_end)
  rest_of (inside before spelled word p front n back awaited there is trees word_is) =
      let follows = rest_of awaited in
      let behind = back_spells p (front ++ Nonterminal n ∷ []) back there (append_assoc front (Nonterminal n ∷ []) back ∙ sym is) in
      (behind.0 ++ follows.0, within before spelled word behind.0 follows.0 (behind.0 ++ follows.0) p front n back follows.1 there is trees behind.1 word_is refl)

  goes_on : (word : List ℕ) (item : Item) → IsItem g word item → (more : List ℕ) × IsWord g (word ++ more)
  goes_on word item i =
      let p = i.production in
      let behind = back_spells p (take item.dot p.symbols) (drop item.dot p.symbols) (item_production g word item i) (take-append-drop item.dot p.symbols) in
      let follows = rest_of i.awaited in
      let more : List ℕ = behind.0 ++ follows.0 in
      (more, continued g word more item (record { is_item = i; behind = behind.0; follows = follows.0; more_is = refl; trees = behind.1; rest = follows.1 }))

  pub hopeless : (word : List ℕ) (items : List Item) → IsItemSet g word items → (items ≡ []) ↔ IsHopeless g word
  hopeless word [] all = (λ e more w. let there = found g word more w in absurd (omega (arith, ((all there.0).1 there.1.is_item).1)), λ h. refl)
  hopeless word (item ∷ items) all = (
    λ e. absurd (cc),
    λ h. let on = goes_on word item ((all item).0 (Contains-head items item)) in absurd (h on.0 on.1),
  )

  pub hopeless_by : (b : Bool) (word : List ℕ) (items : List Item) → IsItemSet g word items → b ≡ (length items == 0) → IsTrue b ↔ IsHopeless g word
  hopeless_by b word items all is =
      let h = hopeless word items all in (
        λ t. h.0 (nothing items (eqb-true (length items) 0 (sym is ∙ t))),
        λ k. is ∙ eq-eqb (length items) 0 (ap length (h.1 k)),
      )
    where
      nothing : (xs : List Item) → length xs ≡ 0 → xs ≡ []
      nothing [] e = refl
      nothing (x ∷ xs) e = absurd (omega arith)
