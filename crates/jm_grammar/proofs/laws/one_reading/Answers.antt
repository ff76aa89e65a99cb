use Rattle.jm_grammar.proofs.GrammarLemmas.{one_formula}
use Rattle.jm_grammar.proofs.ReadLemmas.{one_grammar, never_both}
use Rattle.jm_grammar.proofs.laws.one_reading.Goals as goal

pub returns-clause-formulas : goal.returns-clause-formulas
returns-clause-formulas c = one_formula

pub returns-clause-grammars : goal.returns-clause-grammars
returns-clause-grammars c = one_grammar

pub returns-clause-never_both : goal.returns-clause-never_both
returns-clause-never_both c = never_both
