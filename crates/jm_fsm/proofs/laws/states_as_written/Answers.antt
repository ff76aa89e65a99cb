use Rattle.jm_fsm.proofs.WrittenLemmas.{machine_written}
use Rattle.jm_fsm.proofs.laws.states_as_written.Goals as goal

pub returns : goal.returns
returns c = λ bytes tokens table m read. (read.0, read.1, machine_written bytes table read.0 m read.3)
