use Rattle.jm_ere.proofs.derivative.derivative.Goals as goal

pub returns : goal.returns
returns c = c.fitting.ensures _ c.derivative_run.ensures
