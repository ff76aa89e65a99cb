use Rattle.std.proofs.Common.{inr, refl, sym, ◌∙◌, subst, get_or, Some, None}
use Rattle.std.proofs.lemmas.List.Elements.{Contains-get_or}
use Rattle.jm_awake.specs.Awake.{SlotList, list_at, IsListOf}
use Rattle.jm_awake.proofs.RestLemmas.{loosen}
use Rattle.jm_store.specs.Listed.{occupants_of}
use Rattle.jm_store.proofs.ListedLemmas.{listed_off, listed_still, same_list}
use Rattle.jm_store.proofs.store.Store.unlist_all.Goals as goal

pub loop-slot-init : goal.loop-slot-init
loop-slot-init g c = record {
  listed = λ dead rest listed. record { sound = loosen (Some c.in-Some.place) (occupants_of c.args.self.now.monitors) c.args.awake.now listed.sound; rested = listed.rested };
  lists = refl;
}

pub loop-slot-preserved : goal.loop-slot-preserved
loop-slot-preserved g c =
    let inv = c.loop-slot.invariant in
    let m = g.M.Monitor.meaning (g.M.Monitor.definition c.args.call.now.rules.now) in
    let Stands = g.M.Monitor.StandsFor c.args.call.now.rules.now in
    let e = c.args.call.now.letter.0 in
    let b = c.args.call.now.binding.now in
    let monitors = c.args.self.now.monitors in
    let place = c.in-Some.place in
    let same = same_list c.args.awake.now c.loop-slot.awake place inv.lists in
    let of : IsListOf (list_at c.loop-slot.awake place) e b = subst (λ (l : SlotList). IsListOf l e b) (sym same) c.in-Some.ensures.of in
    record {
      listed = λ dead rest listed.
          let (s, at, resting) = rest (get_or c.args.rests.now c.loop-slot.slot-index 0) (Contains-get_or c.args.rests.now c.loop-slot.slot-index 0 c.loop-slot-test.true) in
          listed_off m Stands dead monitors c.loop-slot.awake c.unlist.new.self place (get_or c.args.rests.now c.loop-slot.slot-index 0) e b s of at resting c.unlist.ensures.lists c.unlist.ensures.sound c.unlist.ensures.on
          (inv.listed dead rest listed);
      lists = c.unlist.ensures.lists ∙ inv.lists;
    }

pub returns-after-loop-slot : goal.returns-after-loop-slot
returns-after-loop-slot g c = λ dead rest listed.
    let m = g.M.Monitor.meaning (g.M.Monitor.definition c.args.call.now.rules.now) in
    let Stands = g.M.Monitor.StandsFor c.args.call.now.rules.now in
    let monitors = c.args.self.now.monitors in
    let loose = c.loop-slot.invariant.listed dead rest listed in
    listed_still m Stands dead (Some c.in-Some.place) None monitors c.loop-slot.awake c.tidy.new.self
    (c.tidy.ensures.sound (Some c.in-Some.place) (occupants_of monitors) (inr refl) loose.sound) c.tidy.ensures.still loose
