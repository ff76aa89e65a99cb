use Rattle.test_store.proofs.rig.Rig.event.Given as goal

abbrev pub ghosts-fire : goal.ghosts-fire
ghosts-fire g a = record { name = a.blank.name; parts = a.blank.parts }
