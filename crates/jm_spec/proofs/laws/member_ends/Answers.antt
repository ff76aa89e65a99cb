use Rattle.jm_spec.proofs.BalanceLemmas.{member_found, member_none}
use Rattle.jm_spec.proofs.laws.member_ends.Goals as goal

pub returns-clause-found : goal.returns-clause-found
returns-clause-found c = λ bytes tokens n is. (member_found bytes tokens n is).0

pub returns-clause-first : goal.returns-clause-first
returns-clause-first c = λ bytes tokens n k is less. (member_found bytes tokens n is).1 k less

pub returns-clause-none : goal.returns-clause-none
returns-clause-none c = λ bytes tokens k is. member_none bytes tokens is k
