use Rattle.jm_machine.proofs.property.PropertyMonitor.idle.Goals as goal

pub returns-in-State-clause-quiet : goal.returns-in-State-clause-quiet
returns-in-State-clause-quiet c = rw c.in-State.is c.idle_of_state.ensures.quiet
