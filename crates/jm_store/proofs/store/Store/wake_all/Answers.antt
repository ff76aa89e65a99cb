use Rattle.std.proofs.Common.{ℕ, inl, inr, List, sym, ap, ◌∙◌, subst}
use Rattle.std.specs.Prelude.{Contains}
use Rattle.jm_index.proofs.ReadLemmas.{Contains-none}
use Rattle.jm_index.proofs.ListedLemmas.{taken_cases, take_whole}
use Rattle.jm_awake.proofs.WakeLemmas.{still_trans}
use Rattle.jm_store.specs.Slots.{monitor_at}
use Rattle.jm_store.specs.Listed.{IsInAll}
use Rattle.jm_store.proofs.ListedLemmas.{still_same, in_all_still}
use Rattle.jm_store.proofs.store.Store.wake_all.Goals as goal

pub loop-slot-init : goal.loop-slot-init
loop-slot-init g c = record { sound = λ s. s; still = still_same c.args.awake.now; told = λ sound k s none. absurd (Contains-none k none) }

pub loop-slot-preserved : goal.loop-slot-preserved
loop-slot-preserved g c =
    let inv = c.loop-slot.invariant in
    let woke = c.wake_one.ensures in
    record {
      sound = λ s. woke.sound (inv.sound s);
      still = still_trans c.args.awake.now c.loop-slot.awake c.wake_one.new.awake inv.still woke.still;
      told = λ sound k s has at. elim (taken_cases c.args.slots.now c.loop-slot.slot-index k c.loop-slot-test.true has) [
        | inl before ↦ in_all_still c.loop-slot.awake c.wake_one.new.awake k s.instance woke.still (inv.told sound k s before at)
        | inr here ↦
            subst (λ (n : ℕ). IsInAll c.wake_one.new.awake n s.instance) here (woke.told (inv.sound sound).found s (ap (monitor_at c.args.self.now.monitors) here ∙ at))
      ];
    }

pub returns-clause-sound : goal.returns-clause-sound
returns-clause-sound g c = c.loop-slot.invariant.sound

pub returns-clause-still : goal.returns-clause-still
returns-clause-still g c = c.loop-slot.invariant.still

pub returns-clause-told : goal.returns-clause-told
returns-clause-told g c = λ sound k s has at.
    let whole = take_whole c.args.slots.now c.loop-slot.slot-index c.loop-slot-test.false in
    c.loop-slot.invariant.told sound k s (subst (λ (v : List ℕ). Contains v k) (sym whole) has) at
