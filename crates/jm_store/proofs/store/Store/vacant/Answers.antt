use Rattle.jm_store.proofs.KeptLemmas.{kept_vacant}
use Rattle.jm_store.proofs.FitLemmas.{vacant_fits}
use Rattle.jm_store.proofs.store.Store.vacant.Goals as goal

pub invariant_of-result : goal.invariant_of-result
invariant_of-result g c = rw (c.new.ensures, c.new-2.ensures.list, c.new-4.ensures.items) (kept_vacant c.new-3.result.spare)

pub returns-clause-fits : goal.returns-clause-fits
returns-clause-fits g c = λ dead. rw (c.new.ensures, c.new-3.ensures) (vacant_fits c.new-2.result _ dead (c.new-2.ensures.fits dead))
