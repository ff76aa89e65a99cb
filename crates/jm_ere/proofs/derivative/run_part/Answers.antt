use Rattle.std.proofs.Common.{sym, ◌∙◌}
use Rattle.jm_ere.proofs.derivative.run_part.Goals as goal

pub returns-else-is_run : goal.returns-else-is_run
returns-else-is_run c = λ r formed. rw (sym c.is_run.ensures ∙ c.if-is_run.false) (c.fitting.ensures r formed)
