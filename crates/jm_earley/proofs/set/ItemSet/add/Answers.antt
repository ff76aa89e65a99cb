use Rattle.std.proofs.Common.{List, subst}
use Rattle.jm_earley.specs.declared.item.Item.{Item}
use Rattle.jm_earley.specs.Growth.{IsWithItem}
use Rattle.jm_earley.proofs.GrowthLemmas.{with_item_from_keys, same_item}
use Rattle.jm_earley.proofs.set.ItemSet.add.Goals as goal

pub returns : goal.returns
returns c = subst (λ (l : List Item). IsWithItem l c.args.item c.insert.new.self.keys) c.self.view_is
    (with_item_from_keys _ same_item c.self.inside.items.keys c.insert.new.self.keys c.args.item c.in_ok-insert.ensures.keys)
