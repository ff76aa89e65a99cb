use Rattle.std.proofs.Common.{ℕ, ◌≡◌, take}
use Rattle.std.specs.Prelude.{Contains, Some, None}
use Rattle.jm_awake.specs.Awake.{AreSound, AreStill}
use Rattle.jm_monitors.specs.declared.stored.Stored.{Stored}
use Rattle.jm_store.specs.Slots.{monitor_at}
use Rattle.jm_store.specs.Listed.{occupants_of, IsInAll}
use Rattle.jm_store.proofs.store.Store.wake_all.Given as goal

abbrev pub invariant-loop-slot : goal.invariant-loop-slot
invariant-loop-slot g l = record {
  sound : AreSound (occupants_of l.self.monitors) l.initial.awake → AreSound (occupants_of l.self.monitors) l.awake;
  still : AreStill None l.initial.awake l.awake;
  told : AreSound (occupants_of l.self.monitors) l.initial.awake → (k : ℕ) (s : Stored g.row.M-State.Denot) → Contains (take l.slot-index l.slots) k → monitor_at l.self.monitors k ≡ Some s → IsInAll l.awake k s.instance;
}
