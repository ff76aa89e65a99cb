use Rattle.std.proofs.Common.{◌∙◌, length, sym, ap, append-nil}
use Rattle.std.specs.Prelude.{List}
use Rattle.jm_store.specs.declared.monitors.Slot.{Slot}
use Rattle.jm_store.specs.declared.monitors.Slot.TheVariants.{Planned}
use Rattle.jm_store.specs.Slots.{monitors_of, stored_in}
use Rattle.jm_store.proofs.SlotLemmas.{stored_in-more}
use Rattle.jm_store.proofs.monitors.Monitors.grow.Goals as goal

pub invariant_of-self-2 : goal.invariant_of-self-2
invariant_of-self-2 g c =
    let slots : List (Slot g.row.S.Denot) = c.self.inside.slots.items in
    rw c.in_ok-push.ensures.items (c.self.invariant ∙ ap length (sym (stored_in-more slots Planned ∙ append-nil (stored_in (monitors_of slots)))))

pub returns-clause-stored : goal.returns-clause-stored
returns-clause-stored g c =
    let slots : List (Slot g.row.S.Denot) = c.self.inside.slots.items in
    rw (← c.self.view_is, c.in_ok-push.ensures.items) (stored_in-more slots Planned ∙ append-nil (stored_in (monitors_of slots)))
