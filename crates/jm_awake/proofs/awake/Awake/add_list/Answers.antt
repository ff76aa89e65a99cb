use Rattle.std.proofs.Common.{◌<◌, length, ap, ◌∙◌, arith}
use Rattle.jm_awake.specs.Awake.{SlotList, path_in}
use Rattle.jm_awake.proofs.MadeLemmas.{made_list}
use Rattle.jm_awake.proofs.awake.Awake.add_list.Goals as goal

pub returns : goal.returns
returns c =
    let path = c.path_within-path.ensures ∙ ap (path_in c.args.binding.now) c.mask.ensures.value in
    let made = rw (← c.self-2.view_is, path) at c.in_ok-place.ensures in
    let own = c.self-2.inside in
    let room : c.args.letter < length own.masks = omega (arith, c.self-2.told, c.requires.low) in
    made_list own.lists.items _ own.cards.items own.letters own.masks c.args.letter c.args.binding.now c.args.slots.now c.args.self.now c.list_slots.new.self c.in_ok-place.place c.in_ok-entries.entries.items c.keep.new.self c.mask-2.result
    made c.in_ok-entries.ensures c.requires.low room c.requires.mask c.mask-2.ensures.value
    (ap (λ (l : SlotList). l.letter) c.keep.ensures) (ap (λ (l : SlotList). l.binding) c.keep.ensures) (ap (λ (l : SlotList). l.is_kept) c.keep.ensures) (ap (λ (l : SlotList). l.entries) c.keep.ensures)
