use Rattle.jm_machine.proofs.KnownLemmas.{known_endings}
use Rattle.jm_machine.proofs.property.Property.state_endings.Goals as goal

pub returns-in-Table : goal.returns-in-Table
returns-in-Table c =
    let i = c.self.inside in
    let set = rw c.in-Table.is at c.self.invariant.1 in
    let known = rw c.in-Table.is at c.self.invariant.2 in
    rw (← c.self.view_is, c.in-Table.is)
    (known_endings i.masks.items i.formula i.handlers i.goal c.self.invariant.0 c.in-Table.table
    c.in-Table.liveness set known c.endings.result.now c.endings.ensures)
