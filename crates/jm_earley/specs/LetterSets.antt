-- Which symbols spell words of some letters.
use Rattle.std.specs.Prelude.{ℕ, ◌↔◌, ◌&&◌, ◌||◌, nat_lt, Bool, true, false, List, IsBitSet, bit_or, fold, if◌then◌else◌}
use Rattle.std.specs.List.{list_all, list_any}
use Rattle.jm_grammar.specs.declared.grammar.GrammarSymbol.{GrammarSymbol}
use Rattle.jm_grammar.specs.declared.grammar.GrammarSymbol.TheVariants.{Letter, Nonterminal}
use Rattle.jm_grammar.specs.declared.grammar.Production.{Production}
use Rattle.jm_grammar.specs.Meanings.{DerivesOf}
use Rattle.jm_grammar.specs.Rounds.{has_bit}
use Rattle.jm_earley.specs.declared.rule.Rule.{Rule}
use Rattle.jm_earley.specs.declared.letter_set.LetterSet.{LetterSet}
use Rattle.jm_earley.specs.Rules.{only, has, no_rule, meets}
use Rattle.jm_earley.specs.Continuations.{DerivesLetters}

-- the set has the nonterminals that spell a word of its letters, and those that spell one of one or more
pub record IsExact (productions : List Production) (set : LetterSet) : Type 0 where
  pub spells : (n : ℕ) → IsBitSet set.spells n ↔ DerivesOf productions set.letters n
  pub goes_on : (n : ℕ) → IsBitSet set.goes_on n ↔ DerivesLetters productions set.letters n

abbrev pub is_letter : GrammarSymbol → Bool
is_letter (Letter a) = true
is_letter (Nonterminal n) = false

abbrev pub has_letter : List GrammarSymbol → Bool
has_letter symbols = list_any is_letter symbols

abbrev pub with_nonterminal : ℕ → GrammarSymbol → ℕ
with_nonterminal known (Letter a) = known
with_nonterminal known (Nonterminal n) = bit_or known (only n)

-- the nonterminals among the symbols
abbrev pub nonterminals : List GrammarSymbol → ℕ
nonterminals symbols = fold with_nonterminal 0 symbols

module _ (letters known : ℕ) where
  -- the symbol is one of these letters and nonterminals
  abbrev pub is_spelled : GrammarSymbol → Bool
  is_spelled (Letter a) = nat_lt a.0 32 && has_bit letters a.0
  is_spelled (Nonterminal n) = has known n

  abbrev pub are_spelled : List GrammarSymbol → Bool
  are_spelled symbols = list_all is_spelled symbols

  -- the left side goes on where one of the symbols does, if all of them spell a word
  abbrev pub spelling_rule : Production → Rule
  spelling_rule p =
      if are_spelled p.symbols
      then record { gives = only p.left; any = nonterminals p.symbols; always = has_letter p.symbols }
      else no_rule

-- the symbols spell a word of the set's letters
abbrev pub can_spell : LetterSet → List GrammarSymbol → Bool
can_spell set symbols = are_spelled set.letters set.spells symbols

-- one of the symbols spells a word of one or more of them
abbrev pub can_go_on : LetterSet → List GrammarSymbol → Bool
can_go_on set symbols = has_letter symbols || meets (nonterminals symbols) set.goes_on
