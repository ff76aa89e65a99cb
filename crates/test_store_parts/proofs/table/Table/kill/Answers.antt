use Rattle.test_store_parts.proofs.table.Table.kill.Goals as goal

pub invariant_of-self : goal.invariant_of-self
invariant_of-self c = rw c.kill.ensures.dead (c.fits_after_death.ensures c.self.inside.index c.self.inside.objects c.args.object c.self.invariant)
