use Rattle.std.proofs.lemmas.List.{length-set}
use Rattle.jm_table.proofs.NumberSetLemmas.{with_number, number_is_added, number_is_more, few_numbers}
use Rattle.jm_table.proofs.number_set.NumberSet.insert.Goals as goal

pub returns-clause-member : goal.returns-clause-member
returns-clause-member g c = λ other. rw (← c.self.view_is) (number_is_added c.self.inside.words c.args.number (rw c.self.told c.requires) other)

pub returns-clause-longer : goal.returns-clause-longer
returns-clause-longer g c = rw (← c.self.view_is) (number_is_more c.self.inside.words c.args.number (rw c.self.told c.requires))

pub returns-clause-bounded : goal.returns-clause-bounded
returns-clause-bounded g c = rw (length-set, c.self.told) at (few_numbers (with_number c.self.inside.words c.args.number))
