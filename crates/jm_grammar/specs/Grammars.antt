-- A grammar as plain data: its productions and its start.
use Rattle.std.specs.Prelude.{ℕ, ◌<◌, ◌≤◌, List, length, All}
use Rattle.jm_grammar.specs.declared.grammar.GrammarSymbol.{GrammarSymbol}
use Rattle.jm_grammar.specs.declared.grammar.GrammarSymbol.TheVariants.{Letter, Nonterminal}
use Rattle.jm_grammar.specs.declared.grammar.Production.{Production}

pub record GrammarDefinition : Type 0 where
  pub productions : List Production
  pub start : ℕ

-- letters are below 32, and nonterminals below 64
abbrev pub IsSmallSymbol : GrammarSymbol → Type 0
IsSmallSymbol (Letter a) = a.0 < 32
IsSmallSymbol (Nonterminal n) = n < 64

pub record HasSmallNumbers (p : Production) : Type 0 where
  pub left : p.left < 64
  pub symbols : All IsSmallSymbol p.symbols

-- and there are at most 32 symbols
pub record IsSmallProduction (p : Production) : Type 0 where
  pub left : p.left < 64
  pub symbols : All IsSmallSymbol p.symbols
  pub few : length p.symbols ≤ 32

-- at most 64 nonterminals, 65,536 productions, 32 symbols in each of them, and 32 letters
pub record IsSmall (productions : List Production) (start : ℕ) : Type 0 where
  pub first : start < 64
  pub few : length productions ≤ 65536
  pub each : All IsSmallProduction productions

-- ---- which letters and nonterminals there are

-- a letter is below this number
abbrev pub IsBelow : ℕ → GrammarSymbol → Type 0
IsBelow letters (Letter a) = a.0 < letters
IsBelow letters (Nonterminal n) = Unit {0}

-- each letter of the productions is below this number
abbrev pub AreBelow : List Production → ℕ → Type 0
AreBelow productions letters = All (λ p. All (IsBelow letters) p.symbols) productions

-- a nonterminal is below this number
abbrev pub IsSymbolWithin : ℕ → GrammarSymbol → Type 0
IsSymbolWithin count (Letter a) = Unit {0}
IsSymbolWithin count (Nonterminal n) = n < count

-- the nonterminals of the production are below this number
pub record IsProductionWithin (count : ℕ) (p : Production) : Type 0 where
  pub left : p.left < count
  pub symbols : All (IsSymbolWithin count) p.symbols

-- the nonterminals of the grammar are below this number
pub record IsWithin (count : ℕ) (g : GrammarDefinition) : Type 0 where
  pub start : g.start < count
  pub productions : All (IsProductionWithin count) g.productions
