use Rattle.jm_store.proofs.walk.Walk.asked.Goals as goal

pub returns : goal.returns
returns g c = record { free = c.free_params-params.ensures; others = c.letters_but-letters.ensures }
