use Rattle.std.proofs.Common.{◌≡◌, inr}
use Rattle.std.specs.Prelude.{Some, None}
use Rattle.jm_awake.proofs.RestLemmas.{sound_along}
use Rattle.jm_store.specs.Listed.{occupant_for, occupants_of}
use Rattle.jm_awake.specs.Awake.{with_slot}
use Rattle.jm_store.proofs.ListedLemmas.{wakable_none, with_same, occupant_some}
use Rattle.jm_store.proofs.store.Store.wake_one.Goals as goal

pub returns-in-Some-clause-sound : goal.returns-in-Some-clause-sound
returns-in-Some-clause-sound g c = λ sound.
    let monitors = c.args.self.now.monitors in
    let (s, at, is) = c.in-Some.ensures in
    let here : occupants_of monitors c.args.slot ≡ Some (occupant_for c.in-Some.instance) = rw (← is) (occupant_some _ s (rw (← c.self.view_is) at)) in
    let x = occupant_for c.in-Some.instance in
    sound_along None (with_slot (occupants_of monitors) c.args.slot (Some x)) (occupants_of monitors) c.wake.new.self (with_same (occupants_of monitors) c.args.slot x here)
    (c.wake.ensures.sound None (occupants_of monitors) (wakable_none (occupants_of monitors) c.args.awake.now c.args.slot c.in-Some.instance 0 (inr here)) sound)
