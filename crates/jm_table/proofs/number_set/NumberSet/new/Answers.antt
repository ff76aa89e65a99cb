use Rattle.jm_table.proofs.NumberSetLemmas.{no_numbers}
use Rattle.jm_table.proofs.number_set.NumberSet.new.Goals as goal

pub returns : goal.returns
returns g c = no_numbers g.row.WORDS
