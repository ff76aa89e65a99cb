use Rattle.std.proofs.Common.{◌++◌, ◌∷◌, [], List, length, map, sym, ap, ◌∙◌, arith, length-append}
use Rattle.jm_model.specs.declared.binding.Binding.{Binding}
use Rattle.jm_monitors.specs.declared.stored.Stored.{Stored}
use Rattle.std.proofs.lemmas.List.{map_push}
use Rattle.jm_store.proofs.SlotLemmas.{stored_taken, stored_other}
use Rattle.jm_store.proofs.monitors.Monitors.instances.Goals as goal
use Rattle.jm_store.proofs.monitors.Monitors.instances.Goals.{in-Taken+in_ok-push, in_default}

pub loop-slot-preserved : goal.loop-slot-preserved
loop-slot-preserved g c =
    let i = c.loop-slot.slot-index in
    let slots = c.deref-slot-items.result.now in
    let of : Stored g.row.S.Denot → Binding = λ s. s.instance in
    let inv = c.loop-slot.invariant in
    elim c.match-slot.branch [
      | in-Taken+in_ok-push w ↦ record {
        list = ap (λ v. v.items) w.list-is ∙ w.in_ok-push.ensures.items ∙ ap (λ (l : List Binding). l ++ of w.in-Taken.monitor ∷ []) inv.list
            ∙ sym (map_push of _ w.in-Taken.monitor) ∙ ap (map of) (sym (stored_taken slots i c.slot-item.result w.in-Taken.monitor c.loop-slot-test.true c.slot-item.is w.in-Taken.is));
        steps = omega (arith, w.steps-is, w.tick.ensures, inv.steps, ap (λ v. length v.items) w.list-is, ap length w.in_ok-push.ensures.items, length-append c.loop-slot.list.items (of w.in-Taken.monitor ∷ []));
      }
      | in_default w ↦ record {
        list = ap (λ v. v.items) w.list-is ∙ inv.list ∙ ap (map of) (sym (stored_other slots i c.slot-item.result c.loop-slot-test.true c.slot-item.is w.in_default.not-Taken));
        steps = omega (arith, w.steps-is, inv.steps, ap (λ v. length v.items) w.list-is);
      }
    ]
