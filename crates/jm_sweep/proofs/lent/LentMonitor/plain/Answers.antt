use Rattle.jm_sweep.proofs.lent.LentMonitor.plain.Goals as goal

pub returns-clause-moves : goal.returns-clause-moves
returns-clause-moves g c = rw (← c.self.view_is) c.plain.ensures.moves

pub returns-clause-rests : goal.returns-clause-rests
returns-clause-rests g c = rw (← c.self.view_is) c.plain.ensures.rests
