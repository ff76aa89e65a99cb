use Rattle.jm_inputs.proofs.OneReadingLemmas.{one_specification, specification_has_no_fault}
use Rattle.jm_inputs.proofs.laws.one_reading.Goals as goal

pub returns-clause-one : goal.returns-clause-one
returns-clause-one c = one_specification

pub returns-clause-never_both : goal.returns-clause-never_both
returns-clause-never_both c = specification_has_no_fault
