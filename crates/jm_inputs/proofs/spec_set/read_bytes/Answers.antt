use Rattle.std.proofs.Common.{refl, ap, Err, ◌∙◌}
use Rattle.jm_inputs.proofs.spec_set.read_bytes.Goals as goal

pub returns-in-Err-Bad-clause-err : goal.returns-in-Err-Bad-clause-err
returns-in-Err-Bad-clause-err c = (refl, c.admit.ensures.fault c.in-Err-Bad.fault (c.in-Err-Bad.is ∙ ap (λ e. Err e) c.in-Err-Bad.field-0-is))

-- answered, though a search finds it, so that a body which refuses there is turned down at once
pub returns-in-Ok-clause-err : goal.returns-in-Ok-clause-err
returns-in-Ok-clause-err c = tt
