use Rattle.jm_fsm.proofs.GrammarLemmas.{one_formula}
use Rattle.jm_fsm.proofs.ReadLemmas.{one_machine, never_both}
use Rattle.jm_fsm.proofs.laws.one_reading.Goals as goal

pub returns-clause-formulas : goal.returns-clause-formulas
returns-clause-formulas c = one_formula

pub returns-clause-machines : goal.returns-clause-machines
returns-clause-machines c = one_machine

pub returns-clause-never_both : goal.returns-clause-never_both
returns-clause-never_both c = never_both
