use Rattle.jm_awake.proofs.CardLemmas.{left_each, left_one}
use Rattle.jm_awake.proofs.card.awake_at.Goals as goal

pub returns-clause-each : goal.returns-clause-each
returns-clause-each c = λ e. left_each c.args.letters c.args.resting e c.ranges.letters.fits c.ranges.resting.fits

pub returns-clause-all : goal.returns-clause-all
returns-clause-all c = λ e. left_one c.args.letters c.args.resting e c.ranges.letters.fits c.ranges.resting.fits
