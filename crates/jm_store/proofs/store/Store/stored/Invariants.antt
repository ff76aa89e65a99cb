use Rattle.jm_store.proofs.store.Store.stored.Given as goal

abbrev pub ghosts-counted_instances : goal.ghosts-counted_instances
ghosts-counted_instances g a = record { name = a.blank.name; parts = a.blank.parts }
