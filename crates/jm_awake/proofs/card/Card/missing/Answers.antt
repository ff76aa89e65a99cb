use Rattle.std.proofs.Common.{◌<◌, ◌^◌, arith}
use Rattle.jm_awake.proofs.CardLemmas.{left_each, left_all}
use Rattle.jm_awake.proofs.card.Card.missing.Goals as goal

pub returns-clause-each : goal.returns-clause-each
returns-clause-each c =
    let fits : c.args.letters < 2 ^ 32 = omega arith in
    let own : c.args.self.now.letters < 2 ^ 32 = omega arith in
    λ e. left_each c.args.letters c.args.self.now.letters e fits own

pub returns-clause-all : goal.returns-clause-all
returns-clause-all c =
    let fits : c.args.letters < 2 ^ 32 = omega arith in
    let own : c.args.self.now.letters < 2 ^ 32 = omega arith in
    λ e. left_all c.args.letters c.args.self.now.letters e fits own
