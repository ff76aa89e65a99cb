-- A set of nonterminals to which a round adds nothing is that of the nonterminals that spell a word.
use Rattle.std.proofs.Common.{◌≡◌, ◌⊎◌, ◌↔◌, ℕ, ◌<◌, ◌≤◌, ◌==◌, ◌*◌, ◌%◌, ◌^◌, Bool, true, false, List, [], ◌∷◌, ◌++◌, Contains, All, bit_or, cond, refl, sym, ap, subst, ◌∙◌, inl, inr, arith, append_assoc, append-nil}
use Rattle.std.specs.Prelude.{IsBitSet}
use Rattle.std.specs.Int.{bit_at, w64}
use Rattle.std.proofs.lemmas.Bool.{eqb-true, and_parts, and_from}
use Rattle.std.proofs.lemmas.Bool.Decides.{eqb_tells}
use Rattle.std.proofs.lemmas.Nat.{le_or_l, bit_set_by_shift}
use Rattle.std.proofs.lemmas.Nat.Bits.{bit_at_set_same, bit_at_set_other, bit_at-zero, shr_and_one}
use Rattle.std.proofs.lemmas.List.Elements.{All-nil, All-cons, All-head, All-tail, All-append, All-contains, All-contains_itself}
use Rattle.jm_grammar.specs.declared.grammar.GrammarSymbol.{GrammarSymbol}
use Rattle.jm_grammar.specs.declared.grammar.GrammarSymbol.TheVariants.{Letter, Nonterminal}
use Rattle.jm_grammar.specs.declared.grammar.Production.{Production}
use Rattle.jm_grammar.specs.Grammars.{IsSmallProduction}
use Rattle.jm_grammar.specs.Meanings.{Trees, no_tree, leaf, node, DerivesOf}
use Rattle.jm_grammar.specs.Rounds.{has_bit, are_known, with_production, round}

-- ---- bits

pub bit_of : (bits k : ℕ) → IsBitSet bits k → has_bit bits k ≡ true
bit_of bits k h = let one : bit_at bits k ≡ 1 = sym (shr_and_one bits k) ∙ (bit_set_by_shift bits k).1 h in rw one refl

pub of_bit : (bits k : ℕ) → has_bit bits k ≡ true → IsBitSet bits k
of_bit bits k h = (bit_set_by_shift bits k).0 (shr_and_one bits k ∙ eqb-true _ _ h)

up : (a b c : ℕ) → a ≤ b → b ≤ c → a ≤ c
up a b c h k = omega arith

between : (a b c : ℕ) → a ≤ b → b ≤ c → c ≡ a → b ≡ a
between a b c h k e = omega arith

-- ---- trees side by side

module _ (ps : List Production) where
  pub trees_append : {symbols : List GrammarSymbol} {word : List ℕ} (behind : List GrammarSymbol) (rest : List ℕ) → Trees ps symbols word → Trees ps behind rest → Trees ps (symbols ++ behind) (word ++ rest)
  trees_append behind rest no_tree more = more
  trees_append behind rest (leaf letter trees) more = leaf letter (trees_append behind rest trees more)
  trees_append behind rest (node n below first others there cut inner trees) more =
      node n below first (others ++ rest) there (ap (λ (l : List ℕ). l ++ rest) cut ∙ append_assoc first others rest) inner (trees_append behind rest trees more)

  module _ (letters : ℕ) where
    -- the symbols spell some word of the letters
    abbrev pub SpellAll : List GrammarSymbol → Type 0
    SpellAll symbols = (word : List ℕ) × All (IsBitSet letters) word × Trees ps symbols word

    -- each of the nonterminals spells a word
    abbrev pub IsSound : ℕ → Type 0
    IsSound known = (n : ℕ) → has_bit known n ≡ true → DerivesOf ps letters n

    -- they have each left side whose symbols are known
    abbrev pub IsClosed : ℕ → Type 0
    IsClosed known = (p : Production) → Contains ps p → are_known letters known p.symbols ≡ true → has_bit known p.left ≡ true

    pub known_spell : (known : ℕ) → IsSound known → (symbols : List GrammarSymbol) → are_known letters known symbols ≡ true → SpellAll symbols
    known_spell known sound [] h = ([], All-nil (IsBitSet letters), no_tree)
    known_spell known sound (Letter a ∷ symbols) h =
        let both = and_parts _ _ h in
        let rest = known_spell known sound symbols both.1 in
        (a.0 ∷ rest.0, All-cons (IsBitSet letters) a.0 rest.0 (of_bit letters a.0 both.0) rest.1, leaf a rest.2)
    known_spell known sound (Nonterminal n ∷ symbols) h =
        let both = and_parts _ _ h in
        let one = sound n both.0 in
        let rest = known_spell known sound symbols both.1 in
        (one.0 ++ rest.0, All-append (IsBitSet letters) one.0 rest.0 one.1 rest.1, trees_append symbols rest.0 one.2 rest.2)

    pub production_spells : (p : Production) → Contains ps p → SpellAll p.symbols → DerivesOf ps letters p.left
    production_spells p there all = (all.0, all.1, node p.left p.symbols all.0 [] there (sym (append-nil all.0)) all.2 no_tree)

    -- ---- one production

    added : (known : ℕ) (p : Production) → p.left < 64 → (n : ℕ) → has_bit (bit_or known (1 * 2 ^ p.left % 2 ^ 64)) n ≡ true → (has_bit known n ≡ true) ⊎ (n ≡ p.left)
    added known p small n h = elim (eqb_tells n p.left) [
      | inl same ↦ inr same.1
      | inr differs ↦ inl (subst (λ (b : ℕ). (b == 1) ≡ true) (bit_at_set_other w64 known p.left small n differs.1) h)
    ]

    one_sound : (known : ℕ) (p : Production) → IsSmallProduction p → Contains ps p → IsSound known → IsSound (with_production letters known p)
    one_sound known p small there sound = by (are_known letters known p.symbols) refl
      where
        by : (b : Bool) → are_known letters known p.symbols ≡ b → IsSound (cond b (bit_or known (1 * 2 ^ p.left % 2 ^ 64)) known)
        by false e n h = sound n h
        by true e n h = elim (added known p small.left n h) [
          | inl before ↦ sound n before
          | inr is ↦ subst (λ (k : ℕ). DerivesOf ps letters k) (sym is) (production_spells p there (known_spell known sound p.symbols e))
        ]

    one_grows : (known : ℕ) (p : Production) → known ≤ with_production letters known p
    one_grows known p = by (are_known letters known p.symbols)
      where
        by : (b : Bool) → known ≤ cond b (bit_or known (1 * 2 ^ p.left % 2 ^ 64)) known
        by true = le_or_l known (1 * 2 ^ p.left % 2 ^ 64)
        by false = omega arith

    one_same : (known : ℕ) (p : Production) → p.left < 64 → with_production letters known p ≡ known → are_known letters known p.symbols ≡ true → has_bit known p.left ≡ true
    one_same known p small same e =
        let whole : bit_or known (1 * 2 ^ p.left % 2 ^ 64) ≡ known = ap (λ b. cond b (bit_or known (1 * 2 ^ p.left % 2 ^ 64)) known) (sym e) ∙ same in
        let one : bit_at known p.left ≡ 1 = ap (λ m. bit_at m p.left) (sym whole) ∙ bit_at_set_same w64 known p.left small in
        rw one refl

    -- ---- a round

    pub round_grows : (qs : List Production) (known : ℕ) → known ≤ round qs letters known
    round_grows [] known = omega arith
    round_grows (p ∷ qs) known = up known (with_production letters known p) _ (one_grows known p) (round_grows qs (with_production letters known p))

    sound_over : (qs : List Production) (known : ℕ) → All IsSmallProduction qs → All (Contains ps) qs → IsSound known → IsSound (round qs letters known)
    sound_over [] known small there sound = sound
    sound_over (p ∷ qs) known small there sound =
        sound_over qs (with_production letters known p) (All-tail IsSmallProduction p qs small) (All-tail (Contains ps) p qs there)
        (one_sound known p (All-head IsSmallProduction p qs small) (All-head (Contains ps) p qs there) sound)

    -- what is known has the left side of this production, if its symbols are known
    abbrev HasLeft : ℕ → Production → Type 0
    HasLeft known p = are_known letters known p.symbols ≡ true → has_bit known p.left ≡ true

    closed_over : (qs : List Production) (known : ℕ) → All IsSmallProduction qs → round qs letters known ≡ known → All (HasLeft known) qs
    closed_over [] known small same = All-nil (HasLeft known)
    closed_over (p ∷ qs) known small same =
        let now : with_production letters known p ≡ known = between known (with_production letters known p) _ (one_grows known p) (round_grows qs (with_production letters known p)) same in
        let later : round qs letters known ≡ known = ap (λ k. round qs letters k) (sym now) ∙ same in
        All-cons (HasLeft known) p qs (one_same known p (All-head IsSmallProduction p qs small).left now) (closed_over qs known (All-tail IsSmallProduction p qs small) later)

    pub round_sound : (known : ℕ) → All IsSmallProduction ps → IsSound known → IsSound (round ps letters known)
    round_sound known small sound = sound_over ps known small (All-contains_itself ps) sound

    pub round_closed : (known : ℕ) → All IsSmallProduction ps → round ps letters known ≡ known → IsClosed known
    round_closed known small same p there = All-contains (HasLeft known) ps p (closed_over ps known small same) there

    pub none_sound : IsSound 0
    none_sound n h = absurd (omega (arith, eqb-true _ _ h, bit_at-zero n))

    -- ---- what trees spell is known

    pub trees_known : (known : ℕ) → IsClosed known → {symbols : List GrammarSymbol} {word : List ℕ} → Trees ps symbols word → All (IsBitSet letters) word → are_known letters known symbols ≡ true
    trees_known known closed no_tree h = refl
    trees_known known closed (leaf {symbols = symbols} {word = word} letter trees) h =
        and_from _ _ (bit_of letters letter.0 (All-head (IsBitSet letters) letter.0 word h)) (trees_known known closed trees (All-tail (IsBitSet letters) letter.0 word h))
    trees_known known closed (node n below first rest there cut inner trees) h =
        let parts : All (IsBitSet letters) (first ++ rest) = subst (λ (l : List ℕ). All (IsBitSet letters) l) cut h in
        and_from _ _ (closed (record { left = n; symbols = below }) there (trees_known known closed inner (All-front first rest parts))) (trees_known known closed trees (All-back first rest parts))
      where
        All-back : (xs ys : List ℕ) → All (IsBitSet letters) (xs ++ ys) → All (IsBitSet letters) ys
        All-back [] ys all = all
        All-back (x ∷ xs) ys all = All-back xs ys (All-tail (IsBitSet letters) x (xs ++ ys) all)

        All-front : (xs ys : List ℕ) → All (IsBitSet letters) (xs ++ ys) → All (IsBitSet letters) xs
        All-front [] ys all = All-nil (IsBitSet letters)
        All-front (x ∷ xs) ys all = All-cons (IsBitSet letters) x xs (All-head (IsBitSet letters) x (xs ++ ys) all) (All-front xs ys (All-tail (IsBitSet letters) x (xs ++ ys) all))

    pub exact : (known : ℕ) → IsSound known → IsClosed known → (n : ℕ) → IsBitSet known n ↔ DerivesOf ps letters n
    exact known sound closed n = (
      λ h. sound n (bit_of known n h),
      λ s. of_bit known n (and_parts _ _ (trees_known known closed s.2 s.1)).0,
    )
