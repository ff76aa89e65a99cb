use Rattle.std.proofs.Common.{◌≡◌, ℕ, List, false, refl, sym, subst}
use Rattle.std.specs.Prelude.{Some, None, Contains}
use Rattle.jm_awake.specs.Awake.{Lists}
use Rattle.jm_awake.proofs.RestLemmas.{fewer_sound, fewer_still}
use Rattle.jm_awake.proofs.WakeLemmas.{still_trans}
use Rattle.jm_index.specs.Index.{flag_of}
use Rattle.jm_monitors.specs.Steps.{after_death}
use Rattle.jm_store.specs.Slots.{monitor_at}
use Rattle.jm_store.specs.Listed.{occupants_of, AreListed}
use Rattle.jm_store.proofs.ListedLemmas.{listed_mourned, none_listed}
use Rattle.jm_store.proofs.store.Store.mourn.Goals as goal
use Rattle.jm_store.proofs.store.Store.mourn.Goals.{in-Ok, in-Err}

pub returns-clause-listed : goal.returns-clause-listed
returns-clause-listed g c = λ rules dead listed.
    let m = g.M.Monitor.meaning (g.M.Monitor.definition rules) in
    let Stands = g.M.Monitor.StandsFor rules in
    let monitors = c.args.self.now.monitors in
    let o = c.args.object in
    let first = c.args.awake.now in
    let mid = c.bury.new.self in
    elim c.match-add_slots_of.branch [
      | in-Ok w ↦
          let buried = fewer_sound None (occupants_of monitors) first mid c.bury.ensures listed.sound in
          let woke = rw c.take_slots-slots.ensures at w.wake_all.ensures in
          subst (λ (l : Lists). AreListed m Stands (after_death dead o) monitors l) (sym w.awake-is)
          (listed_mourned m Stands dead monitors first w.wake_all.new.awake o (still_trans first mid w.wake_all.new.awake (fewer_still None first mid c.bury.ensures) woke.still) (woke.sound buried)
          (λ k s at binds.
          let here : monitor_at c.take_slots-slots.new.self.monitors k ≡ Some s = rw c.take_slots-slots.ensures at in
          let there = rw (← c.self.view_is) at here in
          let live : flag_of c.take_slots-slots.new.self.index.dropped o ≡ false = rw c.take_slots-slots.ensures c.requires in
          let unset = rw (← c.self.view_is) at live in
          let has = w.in-Ok.ensures.all (record { binding = s.instance; slot = k }) o (c.self.invariant.housed.paired k s there) binds (refl, unset) in
          woke.told buried k s (subst (λ (l : List ℕ). Contains l k) (sym w.as_slice.ensures.value) has) at)
          listed)
      | in-Err w ↦ subst (λ (l : Lists). AreListed m Stands (after_death dead o) monitors l) (sym w.awake-is) (none_listed m Stands (after_death dead o) monitors w.forget.new.self w.forget.ensures)
    ]
