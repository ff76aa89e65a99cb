use Rattle.jm_machine.proofs.table_liveness.TableLiveness.can_hit.Goals as goal

pub returns-in-Start : goal.returns-in-Start
returns-in-Start c = rw (← c.self.view_is, c.in-Start.is) c.alive_at_start.ensures

pub returns-in-State : goal.returns-in-State
returns-in-State c = rw c.in-State.is c.is_alive.ensures
