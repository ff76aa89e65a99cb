use Rattle.test_store_parts.proofs.table.Table.remove.Goals as goal

pub invariant_of-self : goal.invariant_of-self
invariant_of-self c = c.remove.ensures.fits c.self.inside.objects c.self.invariant
