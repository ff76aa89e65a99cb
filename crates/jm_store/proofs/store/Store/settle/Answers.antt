use Rattle.std.proofs.Common.{◌≡◌, ◌+◌, ◌<◌, List, Option, length, sym, ap, ◌∙◌, subst, arith}
use Rattle.std.specs.Prelude.{Some, None}
use Rattle.std.proofs.lemmas.List.{length-map}
use Rattle.jm_awake.specs.Awake.{Lists}
use Rattle.jm_monitors.specs.declared.stored.Stored.{Stored}
use Rattle.jm_store.specs.Slots.{monitor_at, monitor_in}
use Rattle.jm_store.specs.Listed.{AreListed}
use Rattle.jm_store.proofs.ListedLemmas.{none_listed}
use Rattle.jm_store.proofs.SettledLemmas.{blend, blend_full, settled_none, settled_some}
use Rattle.jm_store.proofs.store.Store.settle.Goals as goal
use Rattle.jm_store.proofs.store.Store.settle.Goals.{in-None, in-Some}

pub returns-then-letters-eq0 : goal.returns-then-letters-eq0
returns-then-letters-eq0 g c = λ rules dead before left listed.
    none_listed (g.M.Monitor.meaning (g.M.Monitor.definition rules)) (g.M.Monitor.StandsFor rules) dead c.args.self.now.monitors c.forget.new.self c.forget.ensures

pub loop-slot-init : goal.loop-slot-init
loop-slot-init g c = λ rules dead before left listed. listed

pub loop-slot-preserved : goal.loop-slot-preserved
loop-slot-preserved g c = λ rules dead before left listed.
    let m = g.M.Monitor.meaning (g.M.Monitor.definition rules) in
    let Stands = g.M.Monitor.StandsFor rules in
    let monitors = c.args.self.now.monitors in
    let i = c.loop-slot.slot in
    let size : length monitors ≡ length c.self.inside.monitors.slots = rw (← c.self.view_is) (length-map c.self.inside.monitors.slots monitor_in) in
    let low : i < length monitors = omega (arith, size, c.count_slots-slot-end.ensures, c.loop-slot-test.true) in
    let mine = c.loop-slot.invariant rules dead before left listed in
    elim c.match-instance.branch [
      | in-None w ↦
          let none : monitor_at monitors i ≡ None = rw (← c.self.view_is) w.in-None.ensures in
          subst (λ (a : Lists). AreListed m Stands dead (blend monitors before (i + 1)) a) (sym w.awake-is)
          (settled_none m Stands dead before monitors left i low c.loop-slot.awake w.leave.new.self none w.leave.ensures.sound w.leave.ensures.still mine)
      | in-Some w ↦
          let (s, at, is) = w.in-Some.ensures in
          let some : monitor_at monitors i ≡ Some s = rw (← c.self.view_is) at in
          subst (λ (a : Lists). AreListed m Stands dead (blend monitors before (i + 1)) a) (sym w.awake-is) (settled_some m Stands dead before monitors left i low c.loop-slot.awake s some mine)
    ]

pub returns : goal.returns
returns g c = λ rules dead before left listed.
    let m = g.M.Monitor.meaning (g.M.Monitor.definition rules) in
    let Stands = g.M.Monitor.StandsFor rules in
    let monitors = c.args.self.now.monitors in
    let size : length monitors ≡ length c.self.inside.monitors.slots = rw (← c.self.view_is) (length-map c.self.inside.monitors.slots monitor_in) in
    let all : c.loop-slot.slot ≡ length before = (let same = left.size in omega (arith, same, size, c.count_slots-slot-end.ensures, c.loop-slot-test.false, c.loop-slot.auto.slot-end)) in
    subst (λ (l : List (Option (Stored g.row.M-State.Denot))). AreListed m Stands dead l c.loop-slot.awake) (ap (blend monitors before) all ∙ blend_full monitors before left.size)
    (c.loop-slot.invariant rules dead before left listed)
