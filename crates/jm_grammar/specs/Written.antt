-- The productions of a grammar by what is written in the formula, with no word of how they are made.
use Rattle.std.specs.Prelude.{ℕ, ◌≡◌, List, [], ◌∷◌, ◌++◌, Some, Ok, MatchBool}
use Rattle.jm_model.specs.Words.{Text}
use Rattle.jm_text.specs.declared.token.Token.{Token}
use Rattle.jm_reading.specs.Tokens.{name_of}
use Rattle.jm_events.specs.Names.{number_of}
use Rattle.jm_grammar.specs.declared.formula.Part.{Part}
use Rattle.jm_grammar.specs.declared.grammar.GrammarSymbol.{GrammarSymbol}
use Rattle.jm_grammar.specs.declared.grammar.Production.{Production}
use Rattle.jm_grammar.specs.Faults.{is_epsilon, symbol_said}

module _ (bytes : Text) (events known : List Text) where
  -- the symbols are those that the names say, in order: an event's letter or a nonterminal's number, and none for
  -- `epsilon`
  abbrev pub AreSymbols : List Token → List GrammarSymbol → Type 0
  AreSymbols [] symbols = symbols ≡ []
  AreSymbols (t ∷ ts) symbols =
      MatchBool (is_epsilon (name_of bytes t)) (AreSymbols ts symbols)
      ((first : GrammarSymbol) × (rest : List GrammarSymbol) × (symbols ≡ first ∷ rest)
      × (symbol_said bytes events known t ≡ Ok first) × AreSymbols ts rest)

  -- the productions are the alternatives of a left side, in order
  abbrev pub AreAlternatives : ℕ → List (List Token) → List Production → Type 0
  AreAlternatives left [] productions = productions ≡ []
  AreAlternatives left (a ∷ alternatives) [] = ⊥
  AreAlternatives left (a ∷ alternatives) (p ∷ productions) =
      (p.left ≡ left) × AreSymbols a p.symbols × AreAlternatives left alternatives productions

  -- the productions are those of the parts, in order: each part's left side is the nonterminal of its name
  abbrev pub AreAsWritten : List Part → List Production → Type 0
  AreAsWritten [] productions = productions ≡ []
  AreAsWritten (part ∷ parts) productions =
      (left : ℕ) × (front behind : List Production) × (productions ≡ front ++ behind)
      × (number_of known (name_of bytes part.left) ≡ Some left)
      × AreAlternatives left part.alternatives front × AreAsWritten parts behind
