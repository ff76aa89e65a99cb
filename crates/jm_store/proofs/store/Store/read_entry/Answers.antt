use Rattle.std.proofs.Common.{◌≡◌, Option, subst}
use Rattle.std.specs.Prelude.{Some, None}
use Rattle.jm_store.specs.Slots.{monitor_at}
use Rattle.jm_store.specs.declared.moves.Move.{Move}
use Rattle.jm_store.specs.Moves.{IsRead}
use Rattle.jm_store.proofs.MoveLemmas.{compatible_above}
use Rattle.jm_store.proofs.ListedLemmas.{listed_off, read_rests}
use Rattle.jm_store.proofs.store.Store.read_entry.Goals as goal

pub outcome-requires-clause-compatible : goal.outcome-requires-clause-compatible
outcome-requires-clause-compatible g c = compatible_above c.args.event.now.binding.now c.in-Some.base.now.instance (c.requires.above c.in-Some.base.now (rw (← c.self.view_is) c.in-Some.ensures.value))

pub returns-in-None-clause-listed : goal.returns-in-None-clause-listed
returns-in-None-clause-listed g c = λ place of listed.
    let m = g.M.Monitor.meaning (g.M.Monitor.definition c.args.event.now.rules.now) in
    let Stands = g.M.Monitor.StandsFor c.args.event.now.rules.now in
    let e = c.args.event.now.letter.0 in
    let b = c.args.event.now.binding.now in
    let dead = c.args.event.now.objects.now in
    let base = c.in-Some.base.now in
    let at : monitor_at c.args.self.now.monitors c.args.slot ≡ Some base = rw (← c.self.view_is) c.in-Some.ensures.value in
    let read : IsRead m Stands e b dead c.args.event.now.marks.now.list c.args.slot base None = subst (λ (o : Option (Move g.row.M-State.Denot)). IsRead m Stands e b dead c.args.event.now.marks.now.list c.args.slot base o) c.in-None.is c.in_ok-step.ensures in
    let resting = read_rests b c.args.self.now.monitors m Stands e dead c.args.event.now.marks.now.list c.args.slot base (c.requires.above base at) read in
    listed_off m Stands dead c.args.self.now.monitors c.args.awake.now c.unlist.new.self place c.args.slot e b base of at resting c.unlist.ensures.lists c.unlist.ensures.sound c.unlist.ensures.on listed
