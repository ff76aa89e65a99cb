-- The grammar of a formula without a fault is within the limits, and its symbols are there.
use Rattle.std.proofs.Common.{ℕ, ◌≡◌, ◌+◌, ◌<◌, ◌≤◌, Bool, true, false, not, cond, ◌||◌, List, [], ◌∷◌, ◌++◌, Option, Some, None, Ok, All, Contains, length, refl, sym, subst, arith, length-append}
use Rattle.std.specs.List.{list_any}
use Rattle.std.specs.Str.{bytes_eq}
use Rattle.std.proofs.lemmas.Bool.{ltb-false}
use Rattle.std.proofs.lemmas.List.Sums.{sum_by-cons}
use Rattle.std.proofs.lemmas.List.Elements.{All-push, All-weaker, All-contains}
use Rattle.std.proofs.lemmas.List.Quantifiers.{position-Some}
use Rattle.jm_model.specs.declared.step.Letter.{Letter as LetterType}
use Rattle.jm_text.specs.declared.token.Token.{Token}
use Rattle.jm_reading.specs.Tokens.{name_of}
use Rattle.jm_reading.specs.Faults.{◌>>>◌, with_each}
use Rattle.jm_reading.proofs.ReadLemmas.{then_ok, said_is}
use Rattle.jm_events.specs.Names.{number_of}
use Rattle.jm_grammar.specs.declared.formula.Part.{Part}
use Rattle.jm_grammar.specs.declared.grammar.GrammarSymbol.{GrammarSymbol}
use Rattle.jm_grammar.specs.declared.grammar.GrammarSymbol.TheVariants.{Letter, Nonterminal}
use Rattle.jm_grammar.specs.declared.grammar.Production.{Production}
use Rattle.jm_grammar.specs.Grammars.{IsSmallSymbol, IsSmallProduction, IsSmall}
use Rattle.jm_grammar.specs.Faults.{nonterminals, most_nonterminals, nonterminals_fault, production_count, productions_fault, is_epsilon, symbol_count, is_long, has_long, symbols_fault, nonterminal_said, letter_or, symbol_said, with_symbol, with_alternative, with_part}

-- ---- small steps

if_none : {X : Type 0} (b : Bool) (x : X) → cond b (Some x) None ≡ None → b ≡ false
if_none true x h = absurd (cc)
if_none false x h = refl

either_false : (a b : Bool) → (a || b) ≡ false → (a ≡ false) × (b ≡ false)
either_false true b h = absurd (cc)
either_false false b h = (refl, h)

none_all : {X : Type 0} (P : X → Type 0) → All P []
none_all P = λ k d lt. absurd (omega arith)

-- ---- what a symbol says

module _ (bytes : List ℕ) (events known : List (List ℕ)) where
  nonterminal_is : (t : Token) (n : ℕ) → nonterminal_said bytes known t ≡ Ok n → n < length known
  nonterminal_is t n h = (position-Some (bytes_eq (name_of bytes t)) known n [] (said_is (number_of known (name_of bytes t)) _ n h)).0

  -- a letter or a nonterminal that is there
  abbrev pub IsThere : GrammarSymbol → Type 0
  IsThere (Letter letter) = letter.0 < length events
  IsThere (Nonterminal n) = n < length known

  symbol_is_of : (o : Option ℕ) (t : Token) (s : GrammarSymbol) → letter_or o (nonterminal_said bytes known t) ≡ Ok s → ((k : ℕ) → o ≡ Some k → k < length events) → IsThere s
  symbol_is_of (Some k) t s h below =
      let e : Letter (record { 0 = k }) ≡ s = cc in
      subst (λ (x : GrammarSymbol). IsThere x) e (below k refl)
  symbol_is_of None t s h below =
      let a = then_ok (nonterminal_said bytes known t) _ s h in
      let e : Nonterminal a.0 ≡ s = cc (a.2) in
      subst (λ (x : GrammarSymbol). IsThere x) e (nonterminal_is t a.0 a.1)

  symbol_is : (t : Token) (s : GrammarSymbol) → symbol_said bytes events known t ≡ Ok s → IsThere s
  symbol_is t s h =
      symbol_is_of (number_of events (name_of bytes t)) t s h
      (λ k e. (position-Some (bytes_eq (name_of bytes t)) events k [] e).0)

  -- ---- what is made of them

  -- so many symbols that are there
  abbrev AreSymbols : ℕ → List GrammarSymbol → Type 0
  AreSymbols n symbols = All IsThere symbols × (length symbols ≡ n)

  one_symbol_of : (b : Bool) (n : ℕ) (symbols made : List GrammarSymbol) (t : Token) → cond b (Ok symbols) (symbol_said bytes events known t >>> λ s. Ok (symbols ++ s ∷ [])) ≡ Ok made → AreSymbols n symbols → AreSymbols (n + cond (not b) 1 0) made
  one_symbol_of true n symbols made t h are =
      let e : symbols ≡ made = cc in
      subst (λ (l : List GrammarSymbol). AreSymbols (n + 0) l) e (are.0, omega (arith, are.1))
  one_symbol_of false n symbols made t h are =
      let a = then_ok (symbol_said bytes events known t) _ made h in
      let e : symbols ++ a.0 ∷ [] ≡ made = cc (a.2) in
      subst (λ (l : List GrammarSymbol). AreSymbols (n + 1) l) e
      (All-push IsThere symbols a.0 are.0 (symbol_is t a.0 a.1), omega (arith, are.1, length-append symbols (a.0 ∷ [])))

  all_symbols : (n : ℕ) (symbols made : List GrammarSymbol) (ts : List Token) → with_each (with_symbol bytes events known) symbols ts ≡ Ok made → AreSymbols n symbols → AreSymbols (n + symbol_count bytes ts) made
  all_symbols n symbols made [] h are =
      let e : symbols ≡ made = cc in
      subst (λ (l : List GrammarSymbol). AreSymbols (n + 0) l) e (are.0, omega (arith, are.1))
  all_symbols n symbols made (t ∷ ts) h are =
      let a = then_ok (with_symbol bytes events known symbols t) _ made h in
      let one = one_symbol_of (is_epsilon (name_of bytes t)) n symbols a.0 t a.1 are in
      let rest = all_symbols (n + cond (not (is_epsilon (name_of bytes t))) 1 0) a.0 made ts a.2 one in
      (rest.0, omega (arith, rest.1, sum_by-cons (λ s. cond (not (is_epsilon (name_of bytes s))) 1 0) t ts))

  -- a nonterminal that is there, and at most 32 symbols that are there
  pub record IsMade (p : Production) : Type 0 where
    pub left : p.left < length known
    pub symbols : All IsThere p.symbols
    pub few : length p.symbols ≤ 32

  -- so many such productions
  abbrev AreProductions : ℕ → List Production → Type 0
  AreProductions n productions = All IsMade productions × (length productions ≡ n)

  one_alternative : (n left : ℕ) (productions made : List Production) (a : List Token) → left < length known → is_long bytes a ≡ false → with_alternative bytes events known left productions a ≡ Ok made → AreProductions n productions → AreProductions (n + 1) made
  one_alternative n left productions made a first short h are =
      let s = then_ok (with_each (with_symbol bytes events known) [] a) _ made h in
      let there = all_symbols 0 [] s.0 a s.1 (none_all IsThere, refl) in
      let p : Production = record { left = left; symbols = s.0 } in
      let e : productions ++ p ∷ [] ≡ made = cc (s.2) in
      subst (λ (l : List Production). AreProductions (n + 1) l) e
      (All-push IsMade productions p are.0 (record { left = first; symbols = there.0; few = omega (arith, there.1, ltb-false 32 (symbol_count bytes a) short) }), omega (arith, are.1, length-append productions (p ∷ [])))

  all_alternatives : (n left : ℕ) (productions made : List Production) (ys : List (List Token)) → left < length known → list_any (is_long bytes) ys ≡ false → with_each (with_alternative bytes events known left) productions ys ≡ Ok made → AreProductions n productions → AreProductions (n + length ys) made
  all_alternatives n left productions made [] first short h are =
      let e : productions ≡ made = cc in
      subst (λ (l : List Production). AreProductions (n + 0) l) e (are.0, omega (arith, are.1))
  all_alternatives n left productions made (y ∷ ys) first short h are =
      let shorts = either_false (is_long bytes y) (list_any (is_long bytes) ys) short in
      let a = then_ok (with_alternative bytes events known left productions y) _ made h in
      let rest = all_alternatives (n + 1) left a.0 made ys first shorts.1 a.2 (one_alternative n left productions a.0 y first shorts.0 a.1 are) in
      (rest.0, omega (arith, rest.1))

  all_parts : (n : ℕ) (productions made : List Production) (parts : List Part) → list_any (has_long bytes) parts ≡ false → with_each (with_part bytes events known) productions parts ≡ Ok made → AreProductions n productions → AreProductions (n + production_count parts) made
  all_parts n productions made [] short h are =
      let e : productions ≡ made = cc in
      subst (λ (l : List Production). AreProductions (n + 0) l) e (are.0, omega (arith, are.1))
  all_parts n productions made (p ∷ ps) short h are =
      let shorts = either_false (has_long bytes p) (list_any (has_long bytes) ps) short in
      let a = then_ok (with_part bytes events known productions p) _ made h in
      let b = then_ok (nonterminal_said bytes known p.left) _ a.0 a.1 in
      let one = all_alternatives n b.0 productions a.0 p.alternatives (nonterminal_is p.left b.0 b.1) shorts.0 b.2 are in
      let rest = all_parts (n + length p.alternatives) a.0 made ps shorts.1 a.2 one in
      (rest.0, omega (arith, rest.1, sum_by-cons (λ (x : Part). length x.alternatives) p ps))

  -- the productions of a formula whose alternatives are short
  pub made_is : (parts : List Part) (made : List Production) → symbols_fault bytes parts ≡ None → with_each (with_part bytes events known) [] parts ≡ Ok made → AreProductions (production_count parts) made
  made_is parts made short h =
      let all = all_parts 0 [] made parts (if_none _ _ short) h (none_all IsMade, refl) in
      (all.0, omega (arith, all.1))

  symbol_small : length events ≤ 32 → length known ≤ 64 → (s : GrammarSymbol) → IsThere s → IsSmallSymbol s
  symbol_small few_events few_known (Letter letter) h = omega (arith, h)
  symbol_small few_events few_known (Nonterminal n) h = omega (arith, h)

  pub is_small : (parts : List Part) (made : List Production) → length events ≤ 32 → length known ≤ 64 → productions_fault parts ≡ None → symbols_fault bytes parts ≡ None → with_each (with_part bytes events known) [] parts ≡ Ok made → IsSmall made 0
  is_small parts made few_events few_known few short h =
      let all = made_is parts made short h in
      record {
        first = omega arith;
        few = omega (arith, all.1, ltb-false 256 (production_count parts) (if_none _ _ few));
        each = All-weaker IsMade IsSmallProduction
            (λ p is. record { left = omega (arith, is.left); symbols = All-weaker IsThere IsSmallSymbol (symbol_small few_events few_known) p.symbols is.symbols; few = is.few }) made all.0;
      }

  -- a letter of theirs is below the number of events
  pub letter_there : (made : List Production) (p : Production) (letter : LetterType) → All IsMade made → Contains made p → Contains p.symbols (Letter letter) → letter.0 < length events
  letter_there made p letter all has at = All-contains IsThere p.symbols (Letter letter) (All-contains IsMade made p all has).symbols at

pub few_nonterminals : (bytes : List ℕ) (suffix : Bool) (parts : List Part) (known : List (List ℕ)) → known ≡ nonterminals bytes parts → nonterminals_fault bytes suffix parts ≡ None → length known ≤ most_nonterminals suffix
few_nonterminals bytes suffix parts known is few =
    let most = most_nonterminals suffix in
    let at_most : length (nonterminals bytes parts) ≤ most = ltb-false most (length (nonterminals bytes parts)) (if_none _ _ few) in
    subst (λ (l : List (List ℕ)). length l ≤ most) (sym is) at_most
