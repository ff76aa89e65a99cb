use Rattle.jm_runner.proofs.NoteLemmas.{hears}
use Rattle.jm_runner.proofs.hearing.hear.Goals as goal

pub returns : goal.returns
returns g c = hears c.args.note c.args.seat.now c.hear.new.seat c.hear.ensures.one c.hear.ensures.longer c.hear.ensures.own
