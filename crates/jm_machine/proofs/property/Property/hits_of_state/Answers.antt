use Rattle.jm_machine.proofs.KnownLemmas.{known_state_hits, never_state}
use Rattle.jm_machine.proofs.property.Property.hits_of_state.Goals as goal

pub returns-in-Table : goal.returns-in-Table
returns-in-Table c =
    let i = c.self.inside in
    let set = rw c.in-Table.is at c.self.invariant.1 in
    let known = rw c.in-Table.is at c.self.invariant.2 in
    rw (← c.self.view_is, c.in-Table.is)
    (known_state_hits i.masks.items i.formula i.handlers i.goal c.self.invariant.0 c.in-Table.table
    c.in-Table.liveness set known c.args.state c.hits.result c.hits.ensures)

pub returns-in-Grammar : goal.returns-in-Grammar
returns-in-Grammar c =
    let i = c.self.inside in
    rw (← c.self.view_is, c.in-Grammar.is)
    (λ w h. absurd (never_state i.masks.items i.formula i.handlers i.goal c.self.invariant.0 c.in-Grammar.charts c.args.state w h))
