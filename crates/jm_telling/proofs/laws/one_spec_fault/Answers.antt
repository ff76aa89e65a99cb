use Rattle.jm_telling.proofs.FaultLemmas as faults
use Rattle.jm_telling.proofs.laws.one_spec_fault.Goals as goal

pub returns : goal.returns
returns c = faults.one_spec_fault
