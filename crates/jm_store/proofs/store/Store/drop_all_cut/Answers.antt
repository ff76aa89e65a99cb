use Rattle.std.proofs.Common.{◌≡◌, ℕ, ◌∙◌, subst}
use Rattle.std.specs.Prelude.{Some, Contains}
use Rattle.jm_index.specs.Index.{Pair, HasDied, AreListed}
use Rattle.jm_monitors.specs.declared.stored.Stored.{Stored}
use Rattle.jm_store.specs.Slots.{monitor_at}
use Rattle.jm_store.specs.Contents.{Contents}
use Rattle.jm_store.proofs.SparedLemmas.{all_swept}
use Rattle.jm_store.proofs.store.Store.drop_all_cut.Goals.{in-Ok, in-Err}
use Rattle.jm_store.proofs.store.Store.drop_all_cut.Goals as goal

pub returns-clause-all : goal.returns-clause-all
returns-clause-all g c =
    let m = g.M.Monitor.meaning (g.M.Monitor.definition c.args.rules.now) in
    let Stands = g.M.Monitor.StandsFor c.args.rules.now in
    let dead = c.args.objects.now in
    let slots = c.add_slots_of_dead.new.slots.items in
    let whole = c.self.view_is ∙ c.take_slots-slots.ensures in
    elim c.match-add_slots_of_dead.branch [
      | in-Ok w ↦
          let listed = subst (λ (v : Contents g.row.M-State.Denot). AreListed v.index (HasDied v.index dead) slots) whole w.in-Ok.ensures.listed in
          let paired = subst
          (λ (v : Contents g.row.M-State.Denot). (k : ℕ) (s : Stored g.row.M-State.Denot) → monitor_at v.monitors k ≡ Some s → Contains {X = Pair} v.index.list (record { binding = s.instance; slot = k }))
          whole c.self.invariant.housed.paired in
          let down = rw c.take_slots-slots.ensures at w.drop_cut_in.ensures.down in
          let there = rw (w.as_slice.ensures.value, c.take_slots-slots.ensures) at w.drop_cut_in.ensures.present in
          rw (c.give_slots.ensures, w.self-is) (all_swept m Stands dead c.args.self.now w.drop_cut_in.new.self slots down c.requires.spared paired listed there)
      | in-Err w ↦ rw (c.give_slots.ensures, w.self-is) (rw c.take_slots-slots.ensures at w.drop_cut_everywhere.ensures.all)
    ]
