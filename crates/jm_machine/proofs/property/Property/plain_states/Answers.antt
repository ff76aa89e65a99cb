use Rattle.jm_machine.proofs.KnownLemmas.{known_plain, known_at_rest}
use Rattle.jm_machine.proofs.property.Property.plain_states.Goals as goal

pub returns-in-Table-clause-moves : goal.returns-in-Table-clause-moves
returns-in-Table-clause-moves c =
    let i = c.self.inside in
    let set = rw c.in-Table.is at c.self.invariant.1 in
    let known = rw c.in-Table.is at c.self.invariant.2 in
    rw (← c.self.view_is, c.in-Table.is)
    (known_plain i.masks.items i.formula i.handlers i.goal c.self.invariant.0 c.in-Table.table
    c.in-Table.liveness set known c.args.letter.0 c.plain_states.result.now c.plain_states.ensures)

pub returns-in-Table-clause-rests : goal.returns-in-Table-clause-rests
returns-in-Table-clause-rests c =
    let i = c.self.inside in
    let set = rw c.in-Table.is at c.self.invariant.1 in
    let known = rw c.in-Table.is at c.self.invariant.2 in
    rw (← c.self.view_is, c.in-Table.is)
    (known_at_rest i.masks.items i.formula i.handlers i.goal c.self.invariant.0 c.in-Table.table
    c.in-Table.liveness set known c.args.letter.0 c.plain_states.result.now c.plain_states.ensures)
