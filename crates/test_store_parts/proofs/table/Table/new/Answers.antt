use Rattle.test_store_parts.proofs.table.Table.new.Goals as goal

pub invariant_of-result : goal.invariant_of-result
invariant_of-result c = c.new-2.ensures.fits c.in_ok-objects.objects
