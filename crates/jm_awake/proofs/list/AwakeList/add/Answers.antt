use Rattle.std.proofs.Common.{refl, ◌∙◌, inl, inr}
use Rattle.jm_awake.specs.Awake.{SlotList}
use Rattle.jm_awake.proofs.ListLemmas.{with_entries, added}
use Rattle.jm_awake.proofs.list.AwakeList.add.Goals as goal
use Rattle.jm_awake.proofs.list.AwakeList.add.Goals.{then-len-capacity, else-len-capacity}

pub returns-then-len-capacity-2 : goal.returns-then-len-capacity-2
returns-then-len-capacity-2 c = λ kept.
    let own = c.self-2.inside in
    let mid : SlotList = with_entries own.letter own.binding own.is_kept own.entries.items in
    let new : SlotList = with_entries own.letter own.binding own.is_kept c.push_reserved.new.self.items in
    added c.args.cards.now c.args.listed c.args.self.now mid new
    (elim c.if-len-capacity.branch [
      | then-len-capacity w ↦ inr (c.self-2.view_is ∙ w.self-is ∙ w.make_room.ensures)
      | else-len-capacity w ↦ inl (c.self-2.view_is ∙ w.self-is)
    ])
    kept refl refl c.push_reserved.ensures.items
