use Rattle.jm_sweep.proofs.lent.LentMonitor.endings.Goals as goal

pub returns : goal.returns
returns g c = rw (← c.self.view_is) c.endings.ensures
