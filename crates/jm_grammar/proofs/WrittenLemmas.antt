-- The productions of a grammar are as they are written.
use Rattle.std.proofs.Common.{ℕ, ◌≡◌, Bool, true, false, cond, List, [], ◌∷◌, ◌++◌, Ok, MatchBool, refl, sym, ap, subst, ◌∙◌, append_assoc, append-nil}
use Rattle.jm_text.specs.declared.token.Token.{Token}
use Rattle.jm_events.specs.Names.{number_of}
use Rattle.jm_events.specs.Events.{EventDefinitions, event_names}
use Rattle.jm_reading.specs.Tokens.{name_of}
use Rattle.jm_reading.specs.Faults.{◌>>>◌, with_each}
use Rattle.jm_reading.proofs.ReadLemmas.{then_ok, said_is}
use Rattle.jm_grammar.specs.declared.formula.Part.{Part}
use Rattle.jm_grammar.specs.declared.grammar.GrammarSymbol.{GrammarSymbol}
use Rattle.jm_grammar.specs.declared.grammar.Production.{Production}
use Rattle.jm_grammar.specs.Grammars.{GrammarDefinition}
use Rattle.jm_grammar.specs.Faults.{nonterminals, is_epsilon, nonterminal_said, symbol_said, with_symbol, with_alternative, with_part, grammar_of}
use Rattle.jm_grammar.specs.Written.{AreSymbols, AreAlternatives, AreAsWritten}

module _ (bytes : List ℕ) (events known : List (List ℕ)) where
  one_symbol : (b : Bool) (t : Token) (ts : List Token) (symbols next rest : List GrammarSymbol) → cond b (Ok symbols) (symbol_said bytes events known t >>> (λ (s : GrammarSymbol). Ok (symbols ++ s ∷ []))) ≡ Ok next → AreSymbols bytes events known ts rest
      → (more : List GrammarSymbol) × (next ++ rest ≡ symbols ++ more) × MatchBool b (AreSymbols bytes events known ts more) ((first : GrammarSymbol) × (others : List GrammarSymbol) × (more ≡ first ∷ others) × (symbol_said bytes events known t ≡ Ok first) × AreSymbols bytes events known ts others)
  one_symbol true t ts symbols next rest h written = let same : next ≡ symbols = cc in (rest, ap (λ (l : List GrammarSymbol). l ++ rest) same, written)
  one_symbol false t ts symbols next rest h written =
      let a = then_ok (symbol_said bytes events known t) _ next h in
      let same : next ≡ symbols ++ a.0 ∷ [] = cc (a.2) in
      (a.0 ∷ rest, ap (λ (l : List GrammarSymbol). l ++ rest) same ∙ append_assoc symbols (a.0 ∷ []) rest, (a.0, rest, refl, a.1, written))

  symbols_written : (ts : List Token) (symbols made : List GrammarSymbol) → with_each (with_symbol bytes events known) symbols ts ≡ Ok made → (more : List GrammarSymbol) × (made ≡ symbols ++ more) × AreSymbols bytes events known ts more
  symbols_written [] symbols made h = let same : made ≡ symbols = cc in ([], same ∙ sym (append-nil symbols), refl)
  symbols_written (t ∷ ts) symbols made h =
      let a = then_ok (with_symbol bytes events known symbols t) _ made h in
      let rest = symbols_written ts a.0 made a.2 in
      let one = one_symbol (is_epsilon (name_of bytes t)) t ts symbols a.0 rest.0 a.1 rest.2 in
      (one.0, rest.1 ∙ one.1, one.2)

  alternatives_written : (left : ℕ) (alternatives : List (List Token)) (productions made : List Production) → with_each (with_alternative bytes events known left) productions alternatives ≡ Ok made → (more : List Production) × (made ≡ productions ++ more) × AreAlternatives bytes events known left alternatives more
  alternatives_written left [] productions made h = let same : made ≡ productions = cc in ([], same ∙ sym (append-nil productions), refl)
  alternatives_written left (alternative ∷ alternatives) productions made h =
      let a = then_ok (with_alternative bytes events known left productions alternative) _ made h in
      let b = then_ok (with_each (with_symbol bytes events known) [] alternative) _ a.0 a.1 in
      let written = symbols_written alternative [] b.0 b.1 in
      let p : Production = record { left = left; symbols = b.0 } in
      let same : a.0 ≡ productions ++ p ∷ [] = cc (b.2) in
      let rest = alternatives_written left alternatives a.0 made a.2 in
      (p ∷ rest.0, rest.1 ∙ ap (λ (l : List Production). l ++ rest.0) same ∙ append_assoc productions (p ∷ []) rest.0, (refl, subst (λ (l : List GrammarSymbol). AreSymbols bytes events known alternative l) (sym written.1) written.2, rest.2))

  parts_written : (parts : List Part) (productions made : List Production) → with_each (with_part bytes events known) productions parts ≡ Ok made → (more : List Production) × (made ≡ productions ++ more) × AreAsWritten bytes events known parts more
  parts_written [] productions made h = let same : made ≡ productions = cc in ([], same ∙ sym (append-nil productions), refl)
  parts_written (part ∷ parts) productions made h =
      let a = then_ok (with_part bytes events known productions part) _ made h in
      let b = then_ok (nonterminal_said bytes known part.left) _ a.0 a.1 in
      let one = alternatives_written b.0 part.alternatives productions a.0 b.2 in
      let rest = parts_written parts a.0 made a.2 in
      (one.0 ++ rest.0, rest.1 ∙ ap (λ (l : List Production). l ++ rest.0) one.1 ∙ append_assoc productions one.0 rest.0, (b.0, one.0, rest.0, refl, said_is (number_of known (name_of bytes part.left)) _ b.0 b.1, one.2, rest.2))

-- the productions of a grammar that was read
pub grammar_written : (bytes : List ℕ) (table : EventDefinitions) (parts : List Part) (g : GrammarDefinition) → grammar_of bytes table parts ≡ Ok g → AreAsWritten bytes (event_names table) (nonterminals bytes parts) parts g.productions
unfolding grammar_of
grammar_written bytes table parts g h =
    let events = event_names table in
    let known = nonterminals bytes parts in
    let a = then_ok (with_each (with_part bytes events known) [] parts) _ g h in
    let whole : GrammarDefinition = record { productions = a.0; start = 0 } in
    let same : whole ≡ g = cc (a.2) in
    let all = parts_written bytes events known parts [] a.0 a.1 in
    subst (λ (ps : List Production). AreAsWritten bytes events known parts ps) (sym all.1 ∙ ap (λ (x : GrammarDefinition). x.productions) same) all.2
