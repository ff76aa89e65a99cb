-- Sets of nonterminals as bits of a number, which grow by what the productions add.
use Rattle.std.specs.Prelude.{ℕ, ◌==◌, ◌*◌, ◌%◌, ◌^◌, Bool, List, bit_or, fold, if◌then◌else◌}
use Rattle.std.specs.List.{list_all}
use Rattle.std.specs.Int.{bit_at}
use Rattle.jm_grammar.specs.declared.grammar.GrammarSymbol.{GrammarSymbol}
use Rattle.jm_grammar.specs.declared.grammar.GrammarSymbol.TheVariants.{Letter, Nonterminal}
use Rattle.jm_grammar.specs.declared.grammar.Production.{Production}

abbrev pub has_bit : ℕ → ℕ → Bool
has_bit bits k = bit_at bits k == 1

-- the symbol is one of these letters and nonterminals
abbrev pub is_known : ℕ → ℕ → GrammarSymbol → Bool
is_known letters known (Letter a) = has_bit letters a.0
is_known letters known (Nonterminal n) = has_bit known n

abbrev pub are_known : ℕ → ℕ → List GrammarSymbol → Bool
are_known letters known symbols = list_all (is_known letters known) symbols

-- the nonterminals with the left side of a production, where its symbols are known
abbrev pub with_production : ℕ → ℕ → Production → ℕ
with_production letters known p =
    if are_known letters known p.symbols then bit_or known (1 * 2 ^ p.left % 2 ^ 64) else known

abbrev pub round : List Production → ℕ → ℕ → ℕ
round productions letters known = fold (with_production letters) known productions
