use Rattle.std.proofs.Common.{◌≡◌, Some, subst, sym, ◌∙◌, get_or, slice_get}
use Rattle.std.proofs.lemmas.Bool.{false≢true}
use Rattle.std.proofs.lemmas.Option.{slice_get-get_or}
use Rattle.jm_earley.specs.declared.item.Item.{Item}
use Rattle.jm_earley.specs.Growth.{IsWithItem}
use Rattle.jm_earley.proofs.GrowthLemmas.{advance_one, advance_none}
use Rattle.jm_earley.proofs.chart.Charts.advance_over.Goals as goal
use Rattle.jm_earley.proofs.chart.Charts.advance_over.Goals.{then-is_before+in_ok-add, else-is_before}

pub loop-item-preserved : goal.loop-item-preserved
loop-item-preserved c =
    let g = c.args.self.now.grammar in
    let from = c.args.from.now in
    let i = c.loop-item.item-index in
    let x : Item = get_or from i (record { production = 0; dot = 0; origin = 0 }) in
    let at : slice_get from i ≡ Some x = slice_get-get_or from i (record { production = 0; dot = 0; origin = 0 }) c.loop-item-test.true in
    let h = c.loop-item.invariant in
    elim c.if-is_before.branch [
      | then-is_before+in_ok-add w ↦
          let added = subst (λ (y : Item). IsWithItem c.loop-item.set y w.add.new.self) w.advanced.ensures w.in_ok-add.ensures in
          let both = advance_one g from c.args.symbol c.args.set.now c.loop-item.set i x at h.grows h.all w.add.new.self (c.is_before.ensures.value.0 w.if-is_before.true) added in
          rw (w.set-is) (record { grows = both.0; all = both.1 })
      | else-is_before w ↦
          rw (w.set-is) (record {
            grows = h.grows;
            all = advance_none g from c.args.symbol c.args.set.now c.loop-item.set i x at h.grows h.all
                (λ is. false≢true (sym w.if-is_before.false ∙ c.is_before.ensures.value.1 is));
          })
    ]
