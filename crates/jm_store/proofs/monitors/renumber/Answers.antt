use Rattle.std.proofs.Common.{◌≡◌, ◌<◌, refl, sym, ap, ◌∙◌, subst, length}
use Rattle.std.proofs.Math.ListN.{length-set}
use Rattle.jm_monitors.specs.declared.stored.Stored.{Stored}
use Rattle.jm_store.specs.declared.monitors.Slot.TheVariants.{Taken}
use Rattle.jm_store.specs.Slots.{slot_at}
use Rattle.jm_store.proofs.SlotLemmas.{used_within, monitor_used}
use Rattle.jm_store.proofs.WalkLemmas.{alike_set, renumbered, renumbered_others, slot_read}
use Rattle.jm_store.proofs.monitors.renumber.Goals as goal

pub returns-clause-at_key : goal.returns-clause-at_key
returns-clause-at_key g c = λ s k at number.
    let slots = c.args.slots.now in
    let slot = c.args.shift.now.slot in
    let next : Stored g.row.M-State.Denot = record { instance = c.in-Taken.monitor.instance; state = c.renumber.new.state } in
    let (t, there) = c.requires.present in
    let low : slot < length slots = used_within slots slot (monitor_used slots slot t there) in
    let taken : slot_at slots slot ≡ Taken c.in-Taken.monitor = slot_read slots slot c.index-slots-shift.result low ∙ c.in-Taken.is in
    let (same, now) = renumbered slots slot c.in-Taken.monitor s next taken at in
    (next, now, ap (λ (t : Stored g.row.M-State.Denot). t.instance) same, c.renumber.ensures k (subst (λ (t : Stored g.row.M-State.Denot). g.M.Monitor.HasNumber c.args.rules.now t.state k) (sym same) number))

pub returns-clause-others : goal.returns-clause-others
returns-clause-others g c = λ k other. renumbered_others c.args.slots.now c.args.shift.now.slot k _ other

pub returns-clause-alike : goal.returns-clause-alike
returns-clause-alike g c =
    let slots = c.args.slots.now in
    let slot = c.args.shift.now.slot in
    let next : Stored g.row.M-State.Denot = record { instance = c.in-Taken.monitor.instance; state = c.renumber.new.state } in
    let (t, there) = c.requires.present in
    let low : slot < length slots = used_within slots slot (monitor_used slots slot t there) in
    let taken : slot_at slots slot ≡ Taken c.in-Taken.monitor = slot_read slots slot c.index-slots-shift.result low ∙ c.in-Taken.is in
    alike_set slots slot c.in-Taken.monitor next low taken refl (length-set slots slot (Taken next))
