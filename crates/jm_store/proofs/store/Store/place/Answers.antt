use Rattle.std.proofs.Common.{ℕ, refl, subst}
use Rattle.std.specs.Prelude.{Contains}
use Rattle.jm_store.proofs.HousingLemmas.{reserved_apart, reserved_monitors, released_monitors}
use Rattle.jm_store.proofs.KeptLemmas.{kept_planned, kept_released, kept_listed, released_stored, reserved_none}
use Rattle.jm_store.proofs.store.Store.place.Goals as goal

pub invariant_of-self-in_err-slot : goal.invariant_of-self-in_err-slot
invariant_of-self-in_err-slot g c =
    rw c.in_err-slot.ensures.unchanged (kept_listed _ _ _ _ _ _ c.self.invariant c.in_ok-list_domain.ensures.distinct c.in_ok-list_domain.ensures.kept)

pub add-requires : goal.add-requires
add-requires g c = c.has.ensures.no c.if-has.false

pub invariant_of-self-in-Ok : goal.invariant_of-self-in-Ok
invariant_of-self-in-Ok g c =
    let open_now = rw (← c.self.view_is) at c.requires.open in
    let listed = subst (λ (d : ℕ). Contains c.list_domain.new.domains.items d) c.mask.ensures.value c.in_ok-list_domain.ensures.listed in
    rw c.in-Ok.ensures.added
    (kept_planned _ _ _ _ _ _ _ c.in_ok-slot.slot c.args.instance.now open_now c.self.invariant c.in_ok-slot.ensures.reserved (c.has.ensures.no c.if-has.false) c.in_ok-list_domain.ensures.distinct
    c.in_ok-list_domain.ensures.kept listed)

pub invariant_of-self-in-Err : goal.invariant_of-self-in-Err
invariant_of-self-in-Err g c =
    let open_now = rw (← c.self.view_is) at c.requires.open in
    rw (c.in-Err.ensures.unchanged, c.release.ensures)
    (kept_released _ _ _ _ _ _ _ c.in_ok-slot.slot _ open_now c.self.invariant c.in_ok-slot.ensures.reserved c.in_ok-list_domain.ensures.distinct c.in_ok-list_domain.ensures.kept)

pub returns-in-Ok-clause-fits : goal.returns-in-Ok-clause-fits
returns-in-Ok-clause-fits g c = rw (← c.self.view_is) (λ dead fits below. c.in-Ok.ensures.fits dead fits below)

pub returns-in-Ok-clause-placed : goal.returns-in-Ok-clause-placed
returns-in-Ok-clause-placed g c =
    rw (← c.self.view_is)
    (c.in-Ok.ensures.added, reserved_apart _ _ _ c.in_ok-slot.slot c.self.invariant.housed c.in_ok-slot.ensures.reserved, reserved_none _ _ c.in_ok-slot.slot c.in_ok-slot.ensures.reserved)

pub returns-in-Err-clause-fits : goal.returns-in-Err-clause-fits
returns-in-Err-clause-fits g c = rw (← c.self.view_is) (λ dead fits below. c.in-Err.ensures.fits dead fits below)

pub invariant_of-self : goal.invariant_of-self
invariant_of-self g c = kept_listed _ _ _ _ _ _ c.self.invariant c.in_err-list_domain.ensures.distinct c.in_err-list_domain.ensures.kept

pub returns-then-has-clause-placed : goal.returns-then-has-clause-placed
returns-then-has-clause-placed g c = rw (← c.self.view_is) (refl, c.has.ensures.yes c.if-has.true)

pub returns-in-Ok-clause-kept : goal.returns-in-Ok-clause-kept
returns-in-Ok-clause-kept g c =
    rw (← c.self.view_is)
    (record { stored = c.in_ok-slot.ensures.stored; monitors = reserved_monitors _ _ c.in_ok-slot.slot c.in_ok-slot.ensures.reserved; marks = refl; ending = refl })

pub returns-in-Err-clause-kept : goal.returns-in-Err-clause-kept
returns-in-Err-clause-kept g c =
    rw (← c.self.view_is, c.release.ensures)
    (record {
      stored = released_stored c.self.inside.monitors.slots c.reserve.new.self.slots c.in_ok-slot.slot _ c.in_ok-slot.ensures.reserved.here c.in_ok-slot.ensures.stored;
      monitors = released_monitors _ _ c.in_ok-slot.slot _ c.in_ok-slot.ensures.reserved;
      marks = refl;
      ending = refl;
    })
