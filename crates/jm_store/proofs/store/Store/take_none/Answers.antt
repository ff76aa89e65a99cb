use Rattle.jm_store.proofs.VisitLemmas.{settled_monitor}
use Rattle.jm_store.proofs.store.Store.take_none.Goals as goal

pub close-requires-clause-settled : goal.close-requires-clause-settled
close-requires-clause-settled g c =
    let closed = rw (← c.self.view_is) at c.requires.closed in
    rw (c.in_ok-open_for.ensures.opened, ← c.self.view_is) (settled_monitor _ _ c.self.invariant.housed (c.self.invariant.settled closed))

pub returns-clause-marks : goal.returns-clause-marks
returns-clause-marks g c = rw c.in_ok-open_for.ensures.opened at c.close.ensures.marks

pub returns-clause-fits : goal.returns-clause-fits
returns-clause-fits g c =
    let closed = rw c.in_ok-open_for.ensures.opened at c.close.ensures.fits in
    λ dead fit below. closed dead fit.index fit.marks below

pub returns-clause-kept : goal.returns-clause-kept
returns-clause-kept g c =
    let kept = rw c.in_ok-open_for.ensures.opened at c.close.ensures.kept in
    record { monitors = kept.monitors; index = kept.index; ending = kept.ending }

pub returns-clause-silent : goal.returns-clause-silent
returns-clause-silent g c = (c.nothing.ensures.answer, c.nothing.ensures.copy)
