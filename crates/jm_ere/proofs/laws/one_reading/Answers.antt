use Rattle.jm_ere.proofs.FormulaLemmas.{one_formula}
use Rattle.jm_ere.proofs.ReadLemmas.{one_expression, never_both}
use Rattle.jm_ere.proofs.laws.one_reading.Goals as goal

pub returns-clause-formulas : goal.returns-clause-formulas
returns-clause-formulas c = one_formula

pub returns-clause-expressions : goal.returns-clause-expressions
returns-clause-expressions c = one_expression

pub returns-clause-never_both : goal.returns-clause-never_both
returns-clause-never_both c = never_both
