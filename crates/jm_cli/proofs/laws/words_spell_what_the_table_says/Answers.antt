use Rattle.jm_cli.proofs.Saying.{spelled}
use Rattle.jm_cli.proofs.Reading.{told}
use Rattle.jm_cli.proofs.laws.words_spell_what_the_table_says.Goals as goal

pub returns-clause-said : goal.returns-clause-said
returns-clause-said c = spelled

pub returns-clause-read : goal.returns-clause-read
returns-clause-read c = told
