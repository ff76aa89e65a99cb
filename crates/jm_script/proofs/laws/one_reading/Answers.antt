use Rattle.jm_script.proofs.SpellingLemmas.{spelled_is_read, read_is_spelled, one_reading}
use Rattle.jm_script.proofs.laws.one_reading.Goals as goal

pub returns-clause-read : goal.returns-clause-read
returns-clause-read c = spelled_is_read

pub returns-clause-one : goal.returns-clause-one
returns-clause-one c = one_reading

pub returns-clause-spelled : goal.returns-clause-spelled
returns-clause-spelled c = read_is_spelled
