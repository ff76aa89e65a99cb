use Rattle.jm_machine.proofs.KnownLemmas.{known_family}
use Rattle.jm_machine.proofs.property.Property.family.Goals as goal

pub returns-in_ok-family-in-Table-clause-family : goal.returns-in_ok-family-in-Table-clause-family
returns-in_ok-family-in-Table-clause-family c =
    let i = c.self.inside in
    let set = rw c.in-Table.is at c.self.invariant.1 in
    let known = rw c.in-Table.is at c.self.invariant.2 in
    let less = rw (← c.self.view_is) at c.requires in
    rw (← c.self.view_is)
    (λ other. known_family i.masks.items i.formula i.handlers i.goal c.self.invariant.0 c.in-Table.table
    c.in-Table.liveness set known c.args.letter.0 c.in_ok-family-in-Table.field-0.items less c.in_ok-family-in-Table.ensures.bounded
    c.in_ok-family-in-Table.ensures.rising c.in_ok-family-in-Table.ensures.exact)
