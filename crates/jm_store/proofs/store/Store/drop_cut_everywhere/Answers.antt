use Rattle.std.proofs.Common.{◌≡◌, ◌≤◌, ℕ, inl, inr, length, sym, ap, subst, arith}
use Rattle.std.proofs.lemmas.Bool.{cases_lt}
use Rattle.std.proofs.lemmas.Grind.{common_steps}
use Rattle.jm_store.specs.Slots.{monitor_at, monitors_of}
use Rattle.jm_store.specs.Moves.{IsSwept}
use Rattle.jm_store.proofs.PassLemmas.{all_slots}
use Rattle.jm_store.proofs.SparedLemmas.{down_start, down_more, swept_still, swept_here, swept_below}
use Rattle.jm_store.proofs.store.Store.drop_cut_everywhere.Goals as goal

pub loop-slot-init : goal.loop-slot-init
loop-slot-init g c =
    let m = g.M.Monitor.meaning (g.M.Monitor.definition c.args.rules.now) in
    let Stands = g.M.Monitor.StandsFor c.args.rules.now in
    record { down = down_start m Stands c.args.objects.now c.args.self.now c.requires.closed; all = λ k none. absurd (omega arith) }

pub loop-slot-preserved : goal.loop-slot-preserved
loop-slot-preserved g c =
    let m = g.M.Monitor.meaning (g.M.Monitor.definition c.args.rules.now) in
    let Stands = g.M.Monitor.StandsFor c.args.rules.now in
    let dead = c.args.objects.now in
    let inv = c.loop-slot.invariant in
    let done = c.drop_cut.ensures in
    record {
      down = down_more m Stands dead c.args.self.now c.loop-slot.self c.drop_cut.new.self _ inv.down done.monitors done.swept done.closed done.length done.marks done.ending done.fits;
      all = λ k low. elim (cases_lt k c.loop-slot.slot) [
        | inl before ↦ swept_still m Stands dead c.args.self.now c.loop-slot.self c.drop_cut.new.self _ inv.down done.monitors done.swept k (inv.all k before)
        | inr past ↦
            let here : c.loop-slot.slot ≡ k = omega (arith, past, low) in
            subst (λ (n : ℕ). IsSwept m Stands dead (monitor_at c.args.self.now.monitors n) (monitor_at c.drop_cut.new.self.monitors n)) here
            (swept_here m Stands dead c.args.self.now c.loop-slot.self c.drop_cut.new.self _ inv.down done.monitors done.swept)
      ];
    }

pub returns-clause-all : goal.returns-clause-all
returns-clause-all g c =
    let m = g.M.Monitor.meaning (g.M.Monitor.definition c.args.rules.now) in
    let Stands = g.M.Monitor.StandsFor c.args.rules.now in
    let end : length c.self.inside.monitors.slots ≤ c.loop-slot.slot = grind (arith, common_steps) in
    let same : length c.args.self.now.monitors ≡ length (monitors_of c.self.inside.monitors.slots) = ap (λ v. length v.monitors) (sym c.self.view_is) in
    let size : length c.args.self.now.monitors ≤ c.loop-slot.slot = omega (arith, same, all_slots c.self.inside.monitors.slots c.loop-slot.slot end) in
    swept_below m Stands c.args.objects.now _ _ c.loop-slot.slot c.loop-slot.invariant.down size c.loop-slot.invariant.all
