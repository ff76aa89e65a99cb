use Rattle.jm_machine.proofs.KnownLemmas.{known_first_quiet, known_first_ends}
use Rattle.jm_machine.proofs.property.PropertyMonitor.ending.Goals as goal

pub returns-in-Start-Table-clause-quiet : goal.returns-in-Start-Table-clause-quiet
returns-in-Start-Table-clause-quiet c =
    let i = c.self.inside in
    let set = rw c.in-Start-Table.is-1 at c.self.invariant.1 in
    let known = rw c.in-Start-Table.is-1 at c.self.invariant.2 in
    rw (← c.self.view_is, c.in-Start-Table.is-0)
    (λ w h e k bit. known_first_quiet i.masks.items i.formula i.handlers i.goal c.self.invariant.0 c.in-Start-Table.table-1
    c.in-Start-Table.liveness set known e c.first_ending.result c.first_ending.ensures bit w h k)

pub returns-in-Start-Table-clause-cut : goal.returns-in-Start-Table-clause-cut
returns-in-Start-Table-clause-cut c =
    let i = c.self.inside in
    let set = rw c.in-Start-Table.is-1 at c.self.invariant.1 in
    let known = rw c.in-Start-Table.is-1 at c.self.invariant.2 in
    rw (← c.self.view_is, c.in-Start-Table.is-0)
    (λ w h e bit. known_first_ends i.masks.items i.formula i.handlers i.goal c.self.invariant.0 c.in-Start-Table.table-1
    c.in-Start-Table.liveness set known e c.first_ending.result c.first_ending.ensures bit w h)

pub returns-in-State-default-clause-quiet : goal.returns-in-State-default-clause-quiet
returns-in-State-default-clause-quiet c = rw c.in-State-default.is-0 c.ending_of_state.ensures.quiet

pub returns-in-State-default-clause-cut : goal.returns-in-State-default-clause-cut
returns-in-State-default-clause-cut c = rw c.in-State-default.is-0 c.ending_of_state.ensures.cut
