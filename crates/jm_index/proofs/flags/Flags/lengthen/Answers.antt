use Rattle.std.proofs.Common.{arith}
use Rattle.jm_index.proofs.FlagLemmas.{flag_lengthened, length_lengthened}
use Rattle.jm_index.proofs.flags.Flags.lengthen.Goals as goal

pub returns-clause-unchanged : goal.returns-clause-unchanged
returns-clause-unchanged c = flag_lengthened _ _ _ c.self.view_is c.in_ok-push.ensures.items

pub returns-clause-longer : goal.returns-clause-longer
returns-clause-longer c = omega (arith, length_lengthened _ _ _ c.self.view_is c.in_ok-push.ensures.items)

pub returns-clause-more : goal.returns-clause-more
returns-clause-more c = length_lengthened _ _ _ c.self.view_is c.in_ok-push.ensures.items
