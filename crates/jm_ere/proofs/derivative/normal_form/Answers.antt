use Rattle.jm_ere.proofs.derivative.normal_form.Goals as goal

pub returns : goal.returns
returns c = c.fitting.ensures _ c.normal_run.ensures
