use Rattle.std.proofs.lemmas.Bool.{both_ways}
use Rattle.jm_store.proofs.ListedLemmas.{listed_put, listed_drop, listed_move}
use Rattle.jm_store.proofs.waking.follow.Goals as goal

pub returns-then-step : goal.returns-then-step
returns-then-step g c = λ rules dead monitors is listed.
    let m = g.M.Monitor.meaning (g.M.Monitor.definition rules) in
    let Stands = g.M.Monitor.StandsFor rules in
    let (low, same) = is c.in-Some.slot c.in-Some.is in
    listed_move m Stands dead monitors c.args.awake.now c.wake.new.awake c.args.step.now c.in-Some.slot c.in-Some.is is
    (λ stays. listed_put m Stands dead monitors c.args.awake.now c.wake.new.awake c.in-Some.slot c.args.step.now.monitor low same c.wake.ensures.sound c.wake.ensures.still c.wake.ensures.told listed)
    (λ goes. absurd (both_ways c.args.step.now.stays goes c.if-step.true))

pub returns-else-step : goal.returns-else-step
returns-else-step g c = λ rules dead monitors is listed.
    let m = g.M.Monitor.meaning (g.M.Monitor.definition rules) in
    let Stands = g.M.Monitor.StandsFor rules in
    let (low, same) = is c.in-Some.slot c.in-Some.is in
    listed_move m Stands dead monitors c.args.awake.now c.leave.new.self c.args.step.now c.in-Some.slot c.in-Some.is is
    (λ stays. absurd (both_ways c.args.step.now.stays c.if-step.false stays))
    (λ goes. listed_drop m Stands dead monitors c.args.awake.now c.leave.new.self c.in-Some.slot low c.leave.ensures.sound c.leave.ensures.still listed)
