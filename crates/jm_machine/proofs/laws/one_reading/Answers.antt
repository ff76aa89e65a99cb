use Rattle.jm_machine.proofs.ReadingLemmas.{one_rules, rules_or_fault}
use Rattle.jm_machine.proofs.laws.one_reading.Goals as goal

pub returns-clause-one : goal.returns-clause-one
returns-clause-one c = λ bytes tokens tree r s told other. one_rules bytes tokens tree r told s other

pub returns-clause-never_both : goal.returns-clause-never_both
returns-clause-never_both c = λ bytes tokens tree r fault told faulty. rules_or_fault bytes tokens tree r told fault faulty
