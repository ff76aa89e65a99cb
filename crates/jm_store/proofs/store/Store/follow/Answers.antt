use Rattle.jm_store.proofs.store.Store.follow.Goals as goal

pub follow_moves-requires : goal.follow_moves-requires
follow_moves-requires g c = rw c.as_slice.ensures.value (record { apart = c.requires.apart; leads = c.requires.placed })

pub returns : goal.returns
returns g c = rw c.as_slice.ensures.value at c.follow_moves.ensures
