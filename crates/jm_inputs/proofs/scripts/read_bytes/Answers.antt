use Rattle.jm_inputs.proofs.scripts.read_bytes.Goals as goal

-- answered, though a search finds it, so that a body which refuses there is turned down at once
pub returns-in-Ok-clause-err : goal.returns-in-Ok-clause-err
returns-in-Ok-clause-err c = tt
