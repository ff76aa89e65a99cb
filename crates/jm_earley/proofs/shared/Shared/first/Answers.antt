use Rattle.std.specs.Arc.{arc_value}
use Rattle.std.proofs.Common.{map, take, sym, ap, ◌∙◌}
use Rattle.std.proofs.lemmas.List.{take-map}
use Rattle.jm_earley.proofs.PlaceLemmas.{copied_more}
use Rattle.jm_earley.proofs.shared.Shared.first.Goals as goal

pub loop-item-preserved : goal.loop-item-preserved
loop-item-preserved g c =
    let items = c.as_slice.result.now in
    let count = c.args.count in
    copied_more arc_value (take count items) c.loop-item.first.items c.push.new.self.items (take count c.args.self.now) c.loop-item.item-index c.in_ok-item.item c.item-item.result
    c.loop-item-test.true c.item-item.is c.in_ok-item.ensures
    (sym (take-map arc_value count items) ∙ ap (λ l. take count (map arc_value l)) c.as_slice.ensures.value ∙ ap (λ l. take count l) c.self.view_is) c.loop-item.invariant c.in_ok-push.ensures.items
