use Rattle.jm_core.proofs.prop.Prop.event.Given as goal

abbrev pub ghosts-perform : goal.ghosts-perform
ghosts-perform g a = record { name = a.blank.name; parts = a.blank.parts }
