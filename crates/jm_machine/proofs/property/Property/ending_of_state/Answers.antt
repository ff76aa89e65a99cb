use Rattle.jm_machine.proofs.KnownLemmas.{known_quiet, known_ends}
use Rattle.jm_machine.proofs.property.Property.ending_of_state.Goals as goal

pub returns-in-Table-clause-quiet : goal.returns-in-Table-clause-quiet
returns-in-Table-clause-quiet c =
    let i = c.self.inside in
    let set = rw c.in-Table.is at c.self.invariant.1 in
    let known = rw c.in-Table.is at c.self.invariant.2 in
    rw (← c.self.view_is, c.in-Table.is)
    (λ w h e k bit. known_quiet i.masks.items i.formula i.handlers i.goal c.self.invariant.0 c.in-Table.table
    c.in-Table.liveness set known c.args.state e c.ending.result c.ending.ensures bit w h k)

pub returns-in-Table-clause-cut : goal.returns-in-Table-clause-cut
returns-in-Table-clause-cut c =
    let i = c.self.inside in
    let set = rw c.in-Table.is at c.self.invariant.1 in
    let known = rw c.in-Table.is at c.self.invariant.2 in
    rw (← c.self.view_is, c.in-Table.is)
    (λ w h e bit. known_ends i.masks.items i.formula i.handlers i.goal c.self.invariant.0 c.in-Table.table
    c.in-Table.liveness set known c.args.state e c.ending.result c.ending.ensures bit w h)
