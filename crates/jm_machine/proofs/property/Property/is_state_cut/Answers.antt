use Rattle.jm_machine.specs.declared.place.Place.TheVariants.{State}
use Rattle.jm_machine.proofs.KnownLemmas.{known_cut, never_state}
use Rattle.jm_machine.proofs.property.Property.is_state_cut.Goals as goal

pub returns-in-Table : goal.returns-in-Table
returns-in-Table c =
    let i = c.self.inside in
    let set = rw c.in-Table.is at c.self.invariant.1 in
    let known = rw c.in-Table.is at c.self.invariant.2 in
    rw (← c.self.view_is, c.in-Table.is)
    (known_cut i.masks.items i.formula i.handlers i.goal c.self.invariant.0 c.in-Table.table
    c.in-Table.liveness set known (State c.args.state) c.args.dead c.is_alive.result c.is_alive.ensures)

pub returns-in-Grammar : goal.returns-in-Grammar
returns-in-Grammar c =
    let i = c.self.inside in
    rw (← c.self.view_is, c.in-Grammar.is)
    (λ w h. absurd (never_state i.masks.items i.formula i.handlers i.goal c.self.invariant.0 c.in-Grammar.charts c.args.state w h))
