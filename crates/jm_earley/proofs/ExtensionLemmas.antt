-- A word that begins with another passes an item of it: the trees are cut between the two.
use Rattle.std.proofs.Common.{◌≡◌, ◌⊎◌, ℕ, ◌≤◌, List, [], ◌∷◌, ◌++◌, length, Contains, Some, take, drop, slice_get, refl, sym, ap, subst, ◌∙◌, inl, inr, arith, zero, suc, append_assoc, append-nil, length-append, take-append-drop}
use Rattle.std.proofs.lemmas.Option.{slice_get-get_or}
use Rattle.std.proofs.lemmas.List.{take_at, drop_at}
use Rattle.jm_grammar.specs.declared.grammar.GrammarSymbol.{GrammarSymbol}
use Rattle.jm_grammar.specs.declared.grammar.GrammarSymbol.TheVariants.{Letter, Nonterminal}
use Rattle.jm_grammar.specs.declared.grammar.Production.{Production}
use Rattle.jm_grammar.specs.Grammars.{GrammarDefinition}
use Rattle.jm_grammar.specs.Meanings.{Trees, no_tree, leaf, node, Derives, IsWord}
use Rattle.jm_grammar.proofs.RoundLemmas.{trees_append}
use Rattle.jm_earley.specs.declared.item.Item.{Item}
use Rattle.jm_earley.specs.Items.{IsAwaited, at_start, inside, IsItem}
use Rattle.jm_earley.specs.Continuations.{IsRest, at_end, within, IsContinuation}

-- ---- lists that are cut in two ways

cut : (x m a b : List ℕ) → x ++ m ≡ a ++ b → ((y : List ℕ) × (x ≡ a ++ y) × (b ≡ y ++ m)) ⊎ ((y : List ℕ) × (a ≡ x ++ y) × (m ≡ y ++ b))
cut [] m a b e = inr (a, refl, e)
cut (c ∷ x) m [] b e = inl (c ∷ x, refl, sym e)
cut (c ∷ x) m (d ∷ a) b e =
    let heads : c ≡ d = cc in
    let tails : x ++ m ≡ a ++ b = cc in
    elim (cut x m a b tails) [
      | inl h ↦ let same : c ∷ x ≡ d ∷ (a ++ h.0) = (let one = h.1 in cc) in inl (h.0, same, h.2)
      | inr h ↦ let same : d ∷ a ≡ c ∷ (x ++ h.0) = (let one = h.1 in cc) in inr (h.0, same, h.2)
    ]

module _ (g : GrammarDefinition) where
  abbrev ps : List Production
  ps = g.productions

  pub rest_awaited : {word : List ℕ} {n : ℕ} {rest : List ℕ} → IsRest ps g.start word n rest → IsAwaited ps g.start word n
  rest_awaited at_end = at_start
  rest_awaited (within before spelled word behind follows rest p front n back left there is trees trees' word_is rest_is) =
      inside before spelled word p front n back (rest_awaited left) there is trees word_is

  pub whole : (p : Production) (word : List ℕ) → Contains ps p → Trees ps p.symbols word → Derives ps p.left word
  whole p word there trees = node p.left p.symbols word [] there (sym (append-nil word)) trees no_tree

  -- ---- from an item to a word

  pub closes : {word : List ℕ} {n : ℕ} {rest : List ℕ} → IsRest ps g.start word n rest → (inner : List ℕ) → Derives ps n inner → Derives ps g.start (word ++ (inner ++ rest))
  closes at_end inner tree = subst (λ (l : List ℕ). Derives ps g.start l) (sym (append-nil inner)) tree
  closes (within before spelled word behind follows rest p front n back left there is trees trees' word_is rest_is) inner tree =
      let symbols : Trees ps p.symbols (spelled ++ (inner ++ behind)) = subst (λ (s : List GrammarSymbol). Trees ps s (spelled ++ (inner ++ behind))) (sym is)
      (trees_append ps (Nonterminal n ∷ back) (inner ++ behind) trees (trees_append ps back behind tree trees')) in
      let e : before ++ ((spelled ++ (inner ++ behind)) ++ follows) ≡ word ++ (inner ++ rest) = rw (word_is, rest_is) (simp append_assoc) in
      subst (λ (l : List ℕ). Derives ps g.start l) e (closes left (spelled ++ (inner ++ behind)) (whole p (spelled ++ (inner ++ behind)) there symbols))

  slice_get_contains : (qs : List Production) (k : ℕ) (p : Production) → slice_get qs k ≡ Some p → Contains qs p
  slice_get_contains [] k p e = absurd (cc)
  slice_get_contains (q ∷ qs) zero p e = let same : q ≡ p = cc in (0, omega arith, same)
  slice_get_contains (q ∷ qs) (suc k) p e = let r = slice_get_contains qs k p e in (suc r.0, omega (arith, r.1), r.2)

  -- the production of an item is there
  pub item_production : (word : List ℕ) (item : Item) → (i : IsItem g word item) → Contains ps i.production
  item_production word item i = slice_get_contains ps item.production i.production i.found

  pub continued : (word more : List ℕ) (item : Item) → IsContinuation g word item more → IsWord g (word ++ more)
  continued word more item c =
      let i = c.is_item in
      let p = i.production in
      let both : Trees ps (take item.dot p.symbols ++ drop item.dot p.symbols) (i.spelled ++ c.behind) = trees_append ps (drop item.dot p.symbols) c.behind i.trees c.trees in
      let symbols : Trees ps p.symbols (i.spelled ++ c.behind) = subst (λ (s : List GrammarSymbol). Trees ps s (i.spelled ++ c.behind)) (take-append-drop item.dot p.symbols) both in
      let e : i.before ++ ((i.spelled ++ c.behind) ++ c.follows) ≡ word ++ more = rw (i.word_is, c.more_is) (simp append_assoc) in
      subst (λ (l : List ℕ). IsWord g l) e (closes c.rest (i.spelled ++ c.behind) (whole p (i.spelled ++ c.behind) (item_production word item i) symbols))

  -- ---- from a word to an item

  abbrev pub IsFound : List ℕ → List ℕ → Type 0
  IsFound word more = (item : Item) × IsContinuation g word item more

  found_at : (before follows : List ℕ) (p : Production) → IsRest ps g.start before p.left follows → Contains ps p → (front back : List GrammarSymbol) → p.symbols ≡ front ++ back
      → (v w : List ℕ) → Trees ps front v → Trees ps back w → IsFound (before ++ v) (w ++ follows)
  found_at before follows p rest there front back is v w trees trees' =
      let item : Item = record { production = there.0; dot = length front; origin = length before } in
      let fits : length front ≤ length p.symbols = omega (arith, ap length is, length-append front back) in
      let taken : front ≡ take (length front) p.symbols = rw is (sym (take_at front back (length front) refl)) in
      let dropped : back ≡ drop (length front) p.symbols = rw is (sym (drop_at front back (length front) refl)) in
      let is_item : IsItem g (before ++ v) item = record {
        production = p;
        found = slice_get-get_or ps there.0 p there.1 ∙ ap Some there.2;
        dot = fits;
        before = before;
        spelled = v;
        word_is = refl;
        origin = refl;
        awaited = rest_awaited rest;
        trees = subst (λ (s : List GrammarSymbol). Trees ps s v) taken trees;
      } in (
        item,
        record {
          is_item = is_item;
          behind = w;
          follows = follows;
          more_is = refl;
          trees = subst (λ (s : List GrammarSymbol). Trees ps s w) dropped trees';
          rest = rest;
        },
      )

  elsewhere : (word word' more more' : List ℕ) → word ≡ word' → more ≡ more' → IsFound word more → IsFound word' more'
  elsewhere word word' more more' e f h = subst (λ (m : List ℕ). IsFound word' m) f (subst (λ (l : List ℕ). IsFound l more) e h)

  -- the item is in these trees or below them: their word is cut after x
  find : {back : List GrammarSymbol} {w : List ℕ} → Trees ps back w
      → (before follows : List ℕ) (p : Production) → IsRest ps g.start before p.left follows → Contains ps p
      → (front : List GrammarSymbol) → p.symbols ≡ front ++ back → (v : List ℕ) → Trees ps front v
      → (x m : List ℕ) → w ≡ x ++ m → IsFound (before ++ (v ++ x)) (m ++ follows)
  find no_tree before follows p rest there front is v trees [] m e =
      elsewhere (before ++ v) (before ++ (v ++ [])) follows (m ++ follows) (rw append-nil refl) (ap (λ (l : List ℕ). l ++ follows) e) (found_at before follows p rest there front [] is v [] trees no_tree)
  find no_tree before follows p rest there front is v trees (c ∷ x) m e = absurd (cc)
  find (leaf {symbols = symbols} {word = word} letter behind) before follows p rest there front is v trees [] m e =
      elsewhere (before ++ v) (before ++ (v ++ [])) ((letter.0 ∷ word) ++ follows) (m ++ follows) (rw append-nil refl) (ap (λ (l : List ℕ). l ++ follows) e)
      (found_at before follows p rest there front (Letter letter ∷ symbols) is v (letter.0 ∷ word) trees (leaf letter behind))
  find (leaf {symbols = symbols} {word = word} letter behind) before follows p rest there front is v trees (c ∷ x) m e =
      let same : letter.0 ≡ c = cc in
      let others : word ≡ x ++ m = cc in
      let front' = front ++ Letter letter ∷ [] in
      let is' : p.symbols ≡ front' ++ symbols = is ∙ sym (append_assoc front (Letter letter ∷ []) symbols) in
      let trees' : Trees ps front' (v ++ letter.0 ∷ []) = trees_append ps (Letter letter ∷ []) (letter.0 ∷ []) trees (leaf letter no_tree) in
      let moved : before ++ ((v ++ letter.0 ∷ []) ++ x) ≡ before ++ (v ++ (c ∷ x)) = rw (append_assoc v (letter.0 ∷ []) x, same) refl in
      elsewhere _ _ (m ++ follows) (m ++ follows) moved refl (find behind before follows p rest there front' is' (v ++ letter.0 ∷ []) trees' x m others)
  find (node {symbols = symbols} {word = word} n below first others there' is_cut inner behind) before follows p rest there front is v trees x m e =
      elim (cut x m first others (sym e ∙ is_cut)) [
        | inl h ↦
            let front' = front ++ Nonterminal n ∷ [] in
            let is' : p.symbols ≡ front' ++ symbols = is ∙ sym (append_assoc front (Nonterminal n ∷ []) symbols) in
            let trees' : Trees ps front' (v ++ first) = trees_append ps (Nonterminal n ∷ []) first trees (node n below first [] there' (sym (append-nil first)) inner no_tree) in
            let moved : before ++ ((v ++ first) ++ h.0) ≡ before ++ (v ++ x) = rw (h.1, append_assoc v first h.0) refl in
            elsewhere _ _ (m ++ follows) (m ++ follows) moved refl (find behind before follows p rest there front' is' (v ++ first) trees' h.0 m h.2)
        | inr h ↦
            let q : Production = record { left = n; symbols = below } in
            let rest' : IsRest ps g.start (before ++ v) n (others ++ follows) = within before v (before ++ v) others follows (others ++ follows) p front n symbols rest there is trees behind refl refl in
            let moved : (before ++ v) ++ ([] ++ x) ≡ before ++ (v ++ x) = append_assoc before v x in
            let behind' : h.0 ++ (others ++ follows) ≡ m ++ follows = rw h.2 (sym (append_assoc h.0 others follows)) in
            elsewhere _ _ _ _ moved behind' (find inner (before ++ v) (others ++ follows) q rest' there' [] refl [] no_tree x h.0 h.1)
      ]

  nothing : {symbols : List GrammarSymbol} {w : List ℕ} → Trees ps symbols w → symbols ≡ [] → w ≡ []
  nothing no_tree e = refl
  nothing (leaf letter trees) e = absurd (cc)
  nothing (node n below first rest there cut inner trees) e = absurd (cc)

  at_root : {symbols : List GrammarSymbol} {w : List ℕ} → Trees ps symbols w → symbols ≡ Nonterminal g.start ∷ [] → (x m : List ℕ) → w ≡ x ++ m → IsFound x m
  at_root no_tree e x m is = absurd (cc)
  at_root (leaf letter trees) e x m is = absurd (cc)
  at_root (node {symbols = symbols} {word = word} n below first rest there is_cut inner trees) e x m is =
      let start : g.start ≡ n = cc in
      let none : symbols ≡ [] = cc in
      let no_rest : rest ≡ [] = nothing trees none in
      let all : first ≡ x ++ m = sym (append-nil first) ∙ ap (λ (l : List ℕ). first ++ l) (sym no_rest) ∙ sym is_cut ∙ is in
      let q : Production = record { left = n; symbols = below } in
      let root : IsRest ps g.start [] n [] = subst (λ (k : ℕ). IsRest ps g.start [] k []) start at_end in
      elsewhere _ _ _ _ refl (append-nil m) (find inner [] [] q root there [] refl [] no_tree x m all)

  pub found : (word more : List ℕ) → IsWord g (word ++ more) → IsFound word more
  found word more tree = at_root tree refl word more refl
