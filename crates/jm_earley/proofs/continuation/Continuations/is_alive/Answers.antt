use Rattle.std.proofs.Common.{◌<◌, arith, sym}
use Rattle.jm_earley.proofs.AnswerLemmas.{alive_for, number_there, future_there}
use Rattle.jm_earley.proofs.continuation.Continuations.is_alive.Goals as goal

pub returns-in-Some-get : goal.returns-in-Some-get
returns-in-Some-get c = λ g params word are_sets are.
    let small : c.args.dead < 256 = omega (arith, c.ranges.dead.fits) in
    alive_for g params word c.args.sets.now c.args.self.now c.args.dead small are_sets are c.in-Some.number c.in-Some-get.future (sym c.in-Some.ensures) (sym c.in-Some-get.ensures)

pub returns-in-None-get : goal.returns-in-None-get
returns-in-None-get c = λ g params word are_sets are.
    let small : c.args.dead < 256 = omega (arith, c.ranges.dead.fits) in
    absurd (future_there g params word c.args.sets.now c.args.self.now c.args.dead small are_sets are c.in-Some.number (sym c.in-Some.ensures) (sym c.in-None-get.ensures))

pub returns-in-None : goal.returns-in-None
returns-in-None c = λ g params word are_sets are.
    let small : c.args.dead < 256 = omega (arith, c.ranges.dead.fits) in
    absurd (number_there g params word c.args.sets.now c.args.self.now c.args.dead small are_sets are (sym c.in-None.ensures))
