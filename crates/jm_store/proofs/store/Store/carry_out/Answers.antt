use Rattle.std.proofs.Common.{refl}
use Rattle.std.proofs.lemmas.List.{map-set}
use Rattle.jm_store.specs.Slots.{monitor_in}
use Rattle.jm_store.proofs.KeptLemmas.{kept_put, kept_gone}
use Rattle.jm_store.proofs.CommitLemmas.{housed_within}
use Rattle.jm_store.proofs.store.Store.carry_out.Goals as goal

pub invariant_of-self : goal.invariant_of-self
invariant_of-self g c =
    let there = rw (← c.self.view_is) at (c.requires c.in-Some.slot c.in-Some.is) in
    rw c.put.ensures (kept_put _ _ _ _ _ c.in-Some.slot c.args.step.monitor c.self.invariant there)

pub invariant_of-self-else-step : goal.invariant_of-self-else-step
invariant_of-self-else-step g c =
    let there = rw (← c.self.view_is) at (c.requires c.in-Some.slot c.in-Some.is) in
    rw (c.release.ensures, c.remove.ensures.list) (kept_gone _ _ _ _ _ c.in-Some.slot _ c.args.step.monitor.instance c.self.invariant there)

pub returns-then-step-clause-within : goal.returns-then-step-clause-within
returns-then-step-clause-within g c = rw (← c.self.view_is) (housed_within _ _ c.self.invariant.housed)

pub returns-else-step-clause-within : goal.returns-else-step-clause-within
returns-else-step-clause-within g c = rw (← c.self.view_is) (housed_within _ _ c.self.invariant.housed)

pub returns-in_default-clause-within : goal.returns-in_default-clause-within
returns-in_default-clause-within g c = rw (← c.self.view_is) (housed_within _ _ c.self.invariant.housed)

pub returns-else-step-clause-fits : goal.returns-else-step-clause-fits
returns-else-step-clause-fits g c = rw (← c.self.view_is) c.remove.ensures.fits

pub returns-then-step-clause-done : goal.returns-then-step-clause-done
returns-then-step-clause-done g c =
    rw (← c.self.view_is, c.in-Some.is, c.if-step.true, c.put.ensures)
    (record { still = refl; monitors = map-set monitor_in _ _ _; marks = refl; index = refl; dropped = refl; ending = refl })

pub returns-else-step-clause-done : goal.returns-else-step-clause-done
returns-else-step-clause-done g c =
    rw (← c.self.view_is, c.in-Some.is, c.if-step.false, c.release.ensures)
    (record { still = refl; monitors = map-set monitor_in _ _ _; marks = refl; index = c.remove.ensures.list; dropped = c.remove.ensures.dropped; ending = refl })
