use Rattle.jm_ptltl.proofs.GrammarLemmas.{one_formula}
use Rattle.jm_ptltl.proofs.FaultLemmas.{one_past, never_both}
use Rattle.jm_ptltl.proofs.laws.one_reading.Goals as goal

pub returns-clause-formulas : goal.returns-clause-formulas
returns-clause-formulas c = one_formula

pub returns-clause-letters : goal.returns-clause-letters
returns-clause-letters c = one_past

pub returns-clause-never_both : goal.returns-clause-never_both
returns-clause-never_both c = never_both
