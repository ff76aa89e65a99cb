use Rattle.std.proofs.Common.{◌≡◌, ◌+◌, ◌-◌, ◌<◌, length, arith}
use Rattle.jm_marks.specs.Marks.{has_live}
use Rattle.jm_marks.proofs.SweepLemmas.{swept_start, swept_keep, swept_jump, swept_drop, swept_end, swept_within}
use Rattle.jm_marks.proofs.WatchLemmas.{alive_at, spot_watched, bound_by, watched_set, watched_dropped}
use Rattle.jm_marks.proofs.sweep.drop_dead.Goals as goal

pub loop-place-init : goal.loop-place-init
loop-place-init c =
    let all : c.len-place.result ≡ length c.args.bindings.now.keys = rw (c.len-place.ensures, c.refresh-is_fresh.ensures.spots) c.requires.size in
    record {
      swept = rw all (swept_start (has_live c.args.objects.now) c.args.bindings.now.keys);
      watched = rw c.refresh-is_fresh.ensures.spots c.requires;
      fresh = c.refresh-is_fresh.ensures.fresh;
      distinct = λ apart. apart;
      room = omega arith;
      row = omega arith;
    }

pub loop-place-preserved-then-are_quiet : goal.loop-place-preserved-then-are_quiet
loop-place-preserved-then-are_quiet c =
    let inv = c.loop-place.invariant in
    let low = swept_within _ _ _ _ inv.swept in
    record {
      swept = swept_jump _ _ _ _ 16 inv.swept (omega arith) (λ k from below. alive_at c.args.objects.now _ _ k inv.watched (omega (arith, low, below)) (inv.fresh c.if-is_fresh.true _ (c.are_quiet.ensures c.if-are_quiet.true k from (omega (arith, below)))));
      watched = inv.watched;
      fresh = inv.fresh;
      distinct = inv.distinct;
      room = inv.room;
      row = inv.row;
    }

pub loop-place-preserved-then-is_alive : goal.loop-place-preserved-then-is_alive
loop-place-preserved-then-is_alive c =
    let inv = c.loop-place.invariant in
    let next : c.loop-place.place - 1 + 1 ≡ c.loop-place.place = omega arith in
    let low = swept_within _ _ _ _ inv.swept in
    let within : c.loop-place.place - 1 < length c.loop-place.bindings.keys = omega (arith, low) in
    record {
      swept = swept_keep _ _ _ _ _ inv.swept next (alive_at c.args.objects.now _ _ _ inv.watched within (c.is_alive.ensures c.if-is_alive.true));
      watched = inv.watched;
      fresh = inv.fresh;
      distinct = inv.distinct;
      room = inv.room;
      row = inv.row;
    }

pub loop-place-preserved-in-Some : goal.loop-place-preserved-in-Some
loop-place-preserved-in-Some c =
    let inv = c.loop-place.invariant in
    let next : c.loop-place.place - 1 + 1 ≡ c.loop-place.place = omega arith in
    let low = swept_within _ _ _ _ inv.swept in
    let within : c.loop-place.place - 1 < length c.loop-place.bindings.keys = omega (arith, low) in
    let found = rw c.in-Some.is at c.live_object_at.ensures in
    record {
      swept = swept_keep _ _ _ _ _ inv.swept next found.0;
      watched = rw c.put.ensures.spots (watched_set _ _ _ _ inv.watched within (spot_watched _ _ _ (bound_by _ _ found.1)));
      fresh = λ is. rw c.put.ensures.flags (inv.fresh is);
      distinct = inv.distinct;
      room = inv.room;
      row = omega (arith, inv.row, c.put.ensures.spare);
    }

pub loop-place-preserved : goal.loop-place-preserved
loop-place-preserved c =
    let inv = c.loop-place.invariant in
    let next : c.loop-place.place - 1 + 1 ≡ c.loop-place.place = omega arith in
    let low = swept_within _ _ _ _ inv.swept in
    let within : c.loop-place.place - 1 < length c.loop-place.bindings.keys = omega (arith, low) in
    let dead = rw c.in-None.is at c.live_object_at.ensures in
    let gone = c.swap_remove_index.ensures in
    record {
      swept = swept_drop _ _ _ _ _ _ c.swap_remove_index.result inv.swept next dead gone.key gone.keys;
      watched = rw c.remove.ensures.spots (watched_dropped _ _ _ _ c.swap_remove_index.result _ inv.watched within gone.key gone.keys);
      fresh = λ is. rw c.remove.ensures.flags (inv.fresh is);
      distinct = λ _. gone.unique;
      room = omega (arith, inv.room, gone.room.0);
      row = omega (arith, inv.row, c.remove.ensures.spare);
    }

pub returns-clause-list : goal.returns-clause-list
returns-clause-list c = swept_end _ _ _ _ c.loop-place.invariant.swept (omega arith)
