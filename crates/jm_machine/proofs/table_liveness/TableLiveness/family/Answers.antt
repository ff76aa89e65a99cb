use Rattle.jm_machine.proofs.table_liveness.TableLiveness.family.Goals as goal

pub returns-clause-exact : goal.returns-clause-exact
returns-clause-exact c = rw (← c.self.view_is) c.family.ensures.exact
