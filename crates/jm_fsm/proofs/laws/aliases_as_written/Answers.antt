use Rattle.jm_fsm.proofs.WrittenLemmas.{machine_aliases_written}
use Rattle.jm_fsm.proofs.laws.aliases_as_written.Goals as goal

pub returns : goal.returns
returns c = λ bytes tokens table m read. (read.0, read.1, machine_aliases_written bytes table read.0 m read.3)
