use Rattle.jm_awake.proofs.CardLemmas.{without_each, without_all, fewer_left}
use Rattle.jm_store.proofs.walk.without.Goals as goal

pub returns-clause-back : goal.returns-clause-back
returns-clause-back c = λ q. without_each c.args.params c.args.p q c.ranges.params.fits c.requires

pub returns-clause-kept : goal.returns-clause-kept
returns-clause-kept c = λ q other one. without_all c.args.params c.args.p q c.ranges.params.fits c.requires one other

pub returns-clause-fewer : goal.returns-clause-fewer
returns-clause-fewer c = fewer_left c.args.params c.args.p c.requires
