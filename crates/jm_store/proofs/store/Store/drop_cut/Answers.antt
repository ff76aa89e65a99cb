use Rattle.jm_store.proofs.KeptLemmas.{kept_dropped, freed_other, freed_here}
use Rattle.jm_store.proofs.store.Store.drop_cut.Goals as goal

pub invariant_of-self : goal.invariant_of-self
invariant_of-self g c =
    let cut = c.in-Some.ensures.cut in
    rw (c.release.ensures, c.remove.ensures.list, ← cut.2) (kept_dropped _ _ _ _ _ c.args.slot _ cut.0 c.self.invariant cut.1)

pub returns-in-Some-clause-monitors : goal.returns-in-Some-clause-monitors
returns-in-Some-clause-monitors g c = rw (← c.self.view_is, c.release.ensures) (λ k other. freed_other c.self.inside.monitors.slots c.args.slot k _ other)

pub returns-in-Some-clause-swept : goal.returns-in-Some-clause-swept
returns-in-Some-clause-swept g c =
    let cut = c.in-Some.ensures.cut in
    let gone = freed_here c.self.inside.monitors.slots c.args.slot c.self.inside.monitors.free cut.0 cut.1 in
    rw (← c.self.view_is, c.release.ensures, cut.1, gone, cut.2) cut.3

pub returns-in-Some-clause-fits : goal.returns-in-Some-clause-fits
returns-in-Some-clause-fits g c = rw (← c.self.view_is) c.remove.ensures.fits
