use Rattle.jm_machine.proofs.KnownLemmas.{known_cut, known_parse_cut}
use Rattle.jm_machine.proofs.property.Property.is_cut.Goals as goal

pub returns-in-Table : goal.returns-in-Table
returns-in-Table c =
    let i = c.self.inside in
    let set = rw c.in-Table.is at c.self.invariant.1 in
    let known = rw c.in-Table.is at c.self.invariant.2 in
    rw (← c.self.view_is, c.in-Table.is)
    (known_cut i.masks.items i.formula i.handlers i.goal c.self.invariant.0 c.in-Table.table
    c.in-Table.liveness set known c.args.place.now c.args.dead c.can_hit.result c.can_hit.ensures)

pub returns-in-Grammar : goal.returns-in-Grammar
returns-in-Grammar c =
    let i = c.self.inside in
    let set = rw c.in-Grammar.is at c.self.invariant.1 in
    let known = rw c.in-Grammar.is at c.self.invariant.2 in
    rw (← c.self.view_is, c.in-Grammar.is)
    (known_parse_cut i.masks.items i.formula i.handlers i.goal c.self.invariant.0 c.in-Grammar.liveness c.in-Grammar.charts set known c.args.place.now c.args.dead c.is_reset-reset.result c.is_cut.result
    (rw (← c.self.view_is, c.in-Grammar.is) at c.is_reset-reset.ensures) c.is_cut.ensures.coarse c.is_cut.ensures.exact)
