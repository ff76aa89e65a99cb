use Rattle.std.proofs.Common.{◌≡◌, ◌∷◌, [], inl, inr, length, refl, sym, ap, append-nil, arith}
use Rattle.std.proofs.lemmas.List.{length_push}
use Rattle.std.proofs.lemmas.Grind.{common_steps}
use Rattle.jm_store.proofs.PlanLemmas.{filled_same, contents_kept, contents_still}
use Rattle.jm_store.proofs.PlacingLemmas.{placed_none, placed_next, step_split, split_among, all_placed}
use Rattle.jm_store.proofs.store.Store.place_all.Goals as goal

pub loop-step-init : goal.loop-step-init
loop-step-init g c =
    rw (c.lend_room.ensures.unchanged, c.lend_room.ensures.none)
    (record {
      open_now = c.requires.«open»;
      kept = contents_kept c.args.self.now;
      fits = λ dead fits within. fits;
      done = [];
      split = sym (append-nil c.args.moves.items);
      placed = placed_none _ _ c.args.moves.items refl (λ k. refl) c.requires.settled;
    })

pub loop-step-preserved : goal.loop-step-preserved
loop-step-preserved g c =
    let inv = c.loop-step.invariant in
    let next = c.in_ok-place_next.ensures in
    let step = c.in-Some.step in
    let split = step_split c.args.moves.items c.loop-step.moves.items c.pop.new.self.items inv.done step inv.split c.in-Some.ensures.items in
    record {
      open_now = next.«open»;
      kept = contents_still c.args.self.now c.loop-step.self c.place_next.new.self next.kept inv.kept;
      fits = λ dead fits within. next.fits dead (inv.fits dead fits within) (within step (split_among c.args.moves.items c.pop.new.self.items inv.done step split));
      done = step ∷ inv.done;
      split = split;
      placed = placed_next c.args.self.now c.loop-step.self c.place_next.new.self c.args.moves.items c.pop.new.self.items inv.done c.loop-step.placed.items step c.requires.settled c.requires.ready.apart c.requires.ready.leads
          split inv.kept.monitors next.kept.monitors inv.placed c.place_next.new.placed.items next.next;
    }

pub loop-step-smaller : goal.loop-step-smaller
loop-step-smaller g c = omega (arith, ap length c.in-Some.ensures.items, length_push c.pop.new.self.items c.in-Some.step)

pub place_next-requires : goal.place_next-requires
place_next-requires g c = c.loop-step.invariant.open_now

pub returns-in_err-place_next-clause-open : goal.returns-in_err-place_next-clause-open
returns-in_err-place_next-clause-open g c = c.in_err-place_next.ensures.«open»

pub returns-in_err-place_next-clause-kept : goal.returns-in_err-place_next-clause-kept
returns-in_err-place_next-clause-kept g c =
    contents_still c.args.self.now c.loop-step.self c.place_next.new.self c.in_err-place_next.ensures.kept c.loop-step.invariant.kept

pub returns-in_err-place_next-clause-fits : goal.returns-in_err-place_next-clause-fits
returns-in_err-place_next-clause-fits g c =
    let inv = c.loop-step.invariant in
    let step = c.in-Some.step in
    let split = step_split c.args.moves.items c.loop-step.moves.items c.pop.new.self.items inv.done step inv.split c.in-Some.ensures.items in
    λ dead fits within.
    c.in_err-place_next.ensures.fits dead (inv.fits dead fits within) (within step (split_among c.args.moves.items c.pop.new.self.items inv.done step split))

pub returns-in_err-place_next-clause-pending : goal.returns-in_err-place_next-clause-pending
returns-in_err-place_next-clause-pending g c =
    let failed = c.in_err-place_next.ensures in
    record {
      leads = rw (failed.none, failed.unchanged) c.loop-step.invariant.placed.leads;
      filled = rw (failed.none, failed.unchanged)
          (λ pair there. elim (c.loop-step.invariant.placed.filled pair there) [
            | inl full ↦ inl (filled_same c.loop-step.self c.place_next.new.self pair (λ k. sym (failed.kept.monitors k)) full)
            | inr planned ↦ inr planned
          ]);
    }

pub returns-clause-open : goal.returns-clause-open
returns-clause-open g c = rw c.keep_room.ensures (c.loop-step.invariant.open_now)

pub returns-clause-kept : goal.returns-clause-kept
returns-clause-kept g c = rw c.keep_room.ensures (c.loop-step.invariant.kept)

pub returns-clause-fits : goal.returns-clause-fits
returns-clause-fits g c = rw c.keep_room.ensures (c.loop-step.invariant.fits)

pub returns-clause-pending : goal.returns-clause-pending
returns-clause-pending g c = rw c.keep_room.ensures (record { leads = c.loop-step.invariant.placed.leads; filled = c.loop-step.invariant.placed.filled })

pub returns-clause-placed : goal.returns-clause-placed
returns-clause-placed g c =
    let none : length c.loop-step.moves.items ≡ 0 = grind (arith, common_steps) in
    rw c.keep_room.ensures
    (all_placed _ _ c.args.moves.items c.loop-step.moves.items c.loop-step.invariant.done _ c.loop-step.invariant.split none c.loop-step.invariant.placed)
