use Rattle.test_store.proofs.rig.Rig.new.Goals as goal

pub invariant_of-result : goal.invariant_of-result
invariant_of-result g c = record {
  closed = c.in_ok-store.ensures.closed;
  fits = c.in_ok-store.ensures.fits c.in_ok-objects.objects;
}
