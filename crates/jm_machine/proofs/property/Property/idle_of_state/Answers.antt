use Rattle.jm_machine.proofs.KnownLemmas.{known_stays, known_rests}
use Rattle.jm_machine.proofs.property.Property.idle_of_state.Goals as goal

pub returns-in-Table-clause-stays : goal.returns-in-Table-clause-stays
returns-in-Table-clause-stays c =
    let i = c.self.inside in
    let set = rw c.in-Table.is at c.self.invariant.1 in
    let known = rw c.in-Table.is at c.self.invariant.2 in
    rw (← c.self.view_is, c.in-Table.is)
    (λ w h e bit. known_stays i.masks.items i.formula i.handlers i.goal c.self.invariant.0 c.in-Table.table
    c.in-Table.liveness set known c.args.state e c.idle.result c.idle.ensures bit w h)

pub returns-in-Table-clause-quiet : goal.returns-in-Table-clause-quiet
returns-in-Table-clause-quiet c =
    let i = c.self.inside in
    let set = rw c.in-Table.is at c.self.invariant.1 in
    let known = rw c.in-Table.is at c.self.invariant.2 in
    rw (← c.self.view_is, c.in-Table.is)
    (λ w h e k bit. known_rests i.masks.items i.formula i.handlers i.goal c.self.invariant.0 c.in-Table.table
    c.in-Table.liveness set known c.args.state e c.idle.result c.idle.ensures bit w h k)
