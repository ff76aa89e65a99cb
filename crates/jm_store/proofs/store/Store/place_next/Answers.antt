use Rattle.jm_store.proofs.store.Store.place_next.Goals as goal
use Rattle.jm_store.proofs.store.Store.place_next.Goals.{then-is_none+in_ok-step, else-is_none}

pub returns-clause-fits : goal.returns-clause-fits
returns-clause-fits g c =
    elim c.if-is_none.branch [
      | then-is_none+in_ok-step w ↦ rw w.self-is w.place.ensures.fits
      | else-is_none w ↦ rw w.self-is (λ dead fit below. fit)
    ]
