use Rattle.jm_machine.proofs.property.Property.table.Goals as goal

pub returns-in-Table-clause-minimal : goal.returns-in-Table-clause-minimal
returns-in-Table-clause-minimal c =
    let set = rw c.in-Table.is at c.self.invariant.1 in
    set.minimal
