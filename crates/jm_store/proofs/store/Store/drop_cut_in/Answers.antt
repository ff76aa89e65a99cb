use Rattle.std.proofs.Common.{ℕ, List, inl, inr, sym, subst}
use Rattle.std.specs.Prelude.{Contains}
use Rattle.jm_index.proofs.ReadLemmas.{Contains-none}
use Rattle.jm_index.proofs.ListedLemmas.{taken_cases, take_whole}
use Rattle.jm_store.specs.Slots.{monitor_at}
use Rattle.jm_store.specs.Moves.{IsSwept}
use Rattle.jm_store.proofs.SparedLemmas.{down_start, down_more, swept_still, swept_here}
use Rattle.jm_store.proofs.store.Store.drop_cut_in.Goals as goal

pub loop-slot-init : goal.loop-slot-init
loop-slot-init g c =
    let m = g.M.Monitor.meaning (g.M.Monitor.definition c.args.rules.now) in
    let Stands = g.M.Monitor.StandsFor c.args.rules.now in
    record { down = down_start m Stands c.args.objects.now c.args.self.now c.requires.closed; there = λ k none. absurd (Contains-none k none) }

pub loop-slot-preserved : goal.loop-slot-preserved
loop-slot-preserved g c =
    let m = g.M.Monitor.meaning (g.M.Monitor.definition c.args.rules.now) in
    let Stands = g.M.Monitor.StandsFor c.args.rules.now in
    let dead = c.args.objects.now in
    let inv = c.loop-slot.invariant in
    let done = c.drop_cut.ensures in
    record {
      down = down_more m Stands dead c.args.self.now c.loop-slot.self c.drop_cut.new.self _ inv.down done.monitors done.swept done.closed done.length done.marks done.ending done.fits;
      there = λ k there. elim (taken_cases c.args.slots.now c.loop-slot.slot-index k c.loop-slot-test.true there) [
        | inl before ↦ swept_still m Stands dead c.args.self.now c.loop-slot.self c.drop_cut.new.self _ inv.down done.monitors done.swept k (inv.there k before)
        | inr here ↦
            subst (λ (n : ℕ). IsSwept m Stands dead (monitor_at c.args.self.now.monitors n) (monitor_at c.drop_cut.new.self.monitors n)) here
            (swept_here m Stands dead c.args.self.now c.loop-slot.self c.drop_cut.new.self _ inv.down done.monitors done.swept)
      ];
    }

pub returns-clause-present : goal.returns-clause-present
returns-clause-present g c = λ k there.
    let whole = take_whole c.args.slots.now c.loop-slot.slot-index c.loop-slot-test.false in
    c.loop-slot.invariant.there k (subst (λ (v : List ℕ). Contains v k) (sym whole) there)
