use Rattle.std.proofs.Common.{◌≡◌, ◌<◌, ◌^◌, ◌∙◌, map, take, length, refl, sym, ap, arith}
use Rattle.std.proofs.Math.Pow.{pow_mono}
use Rattle.std.proofs.lemmas.List.{take_all}
use Rattle.std.proofs.lemmas.List.Elements.{All-map, All-weaker}
use Rattle.jm_events.proofs.RowLemmas.{fields-events_of}
use Rattle.jm_events.proofs.table.EventTable.masks.Goals as goal

pub returns-clause-value : goal.returns-clause-value
returns-clause-value c =
    let whole : take c.loop-row.row-index c.deref-row-items.result.now ≡ c.self.inside.rows.items =
    take_all c.loop-row.row-index c.deref-row-items.result.now c.loop-row-test.false ∙ c.deref-row-items.ensures.value in
    rw (← c.self.view_is) (c.loop-row.invariant ∙ ap (map (λ row. row.mask)) whole
    ∙ sym (fields-events_of (λ e. e.mask) (λ row. row.mask) c.self.inside.events c.self.inside.rows.items (λ _ _. refl) c.self.invariant.row_each))

pub returns-clause-fit : goal.returns-clause-fit
returns-clause-fit c =
    let whole : take c.loop-row.row-index c.deref-row-items.result.now ≡ c.self.inside.rows.items =
    take_all c.loop-row.row-index c.deref-row-items.result.now c.loop-row-test.false ∙ c.deref-row-items.ensures.value in
    rw (← c.self.view_is, c.loop-row.invariant, whole) (All-map (λ m. m < 2 ^ length c.self.inside.params) (λ row. row.mask) c.self.inside.rows.items c.self.invariant.masks)

pub returns-clause-bytes : goal.returns-clause-bytes
returns-clause-bytes c =
    let whole : take c.loop-row.row-index c.deref-row-items.result.now ≡ c.self.inside.rows.items =
    take_all c.loop-row.row-index c.deref-row-items.result.now c.loop-row-test.false ∙ c.deref-row-items.ensures.value in
    let masks = All-map (λ m. m < 2 ^ length c.self.inside.params) (λ row. row.mask) c.self.inside.rows.items c.self.invariant.masks in
    let few = pow_mono c.self.invariant.few_parameters in
    rw (c.loop-row.invariant, whole) (All-weaker (λ m. m < 2 ^ length c.self.inside.params) (λ m. m < 256) (λ m less. omega (arith, few, less)) (map (λ row. row.mask) c.self.inside.rows.items) masks)
