use Rattle.test_store_parts.proofs.table.Table.add.Goals as goal

pub invariant_of-self : goal.invariant_of-self
invariant_of-self c = c.add.ensures.fits _ (c.remove.ensures.fits _ c.self.invariant) (c.within.ensures c.if-within.true)

pub invariant_of-self-in_err-add : goal.invariant_of-self-in_err-add
invariant_of-self-in_err-add c = c.add.ensures.fits _ (c.remove.ensures.fits _ c.self.invariant) (c.within.ensures c.if-within.true)
