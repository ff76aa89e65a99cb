-- The productions of the grammar whose words end in a word, of a letter or more, of a given grammar.
--
-- The nonterminals of the given grammar are below 31. Each has a second form, which spells its words of a letter or
-- more: that of n is n + 31. The new start is 62.
use Rattle.std.specs.Prelude.{ℕ, ◌+◌, Bool, false, List, [], ◌∷◌, ◌++◌, map, if◌then◌else◌}
use Rattle.std.specs.List.{range_with_len}
use Rattle.jm_grammar.specs.declared.grammar.GrammarSymbol.{GrammarSymbol}
use Rattle.jm_grammar.specs.declared.grammar.GrammarSymbol.TheVariants.{Letter, Nonterminal}
use Rattle.jm_grammar.specs.declared.grammar.Production.{Production}
use Rattle.jm_grammar.specs.Grammars.{GrammarDefinition}
use Rattle.jm_grammar.specs.Rounds.{has_bit}

-- the second form of a symbol, which is the letter itself where it is one
abbrev pub second : GrammarSymbol → GrammarSymbol
second (Letter a) = Letter a
second (Nonterminal n) = Nonterminal (n + 31)

-- `empty` has the nonterminals that spell the empty word, by their bits
module _ (empty : ℕ) where
  abbrev pub can_be_empty : GrammarSymbol → Bool
  can_be_empty (Letter a) = false
  can_be_empty (Nonterminal n) = has_bit empty n

  -- The productions of a second form for one production of what it is a form of: for each symbol whose earlier symbols
  -- can all be empty, its second form and what stands after it.
  abbrev pub second_forms : ℕ → List GrammarSymbol → List Production
  second_forms left [] = []
  second_forms left (s ∷ symbols) =
      record { left = left; symbols = second s ∷ symbols }
      ∷ (if can_be_empty s then second_forms left symbols else [])

  abbrev pub all_second_forms : List Production → List Production
  all_second_forms [] = []
  all_second_forms (p ∷ productions) = second_forms (p.left + 31) p.symbols ++ all_second_forms productions

-- the new start goes on after a letter
abbrev pub start_behind : ℕ → Production
start_behind letter = record { left = 62; symbols = Letter (record { 0 = letter }) ∷ Nonterminal 62 ∷ [] }

-- the productions of the new start: one for each letter below the number, and one for the second form of the old start
abbrev pub start_forms : ℕ → ℕ → List Production
start_forms letters start =
    map start_behind (range_with_len 0 letters)
    ++ record { left = 62; symbols = Nonterminal (start + 31) ∷ [] } ∷ []

abbrev pub suffixed_productions : ℕ → ℕ → GrammarDefinition → List Production
suffixed_productions empty letters g =
    g.productions ++ all_second_forms empty g.productions ++ start_forms letters g.start
