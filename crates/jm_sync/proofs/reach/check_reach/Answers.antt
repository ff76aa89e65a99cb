use Rattle.std.proofs.Common.{refl, arith}
use Rattle.jm_sync.specs.Checks.{sync_of}
use Rattle.jm_sync.proofs.CheckLemmas.{length-sync_of, script_at}
use Rattle.jm_sync.proofs.ReachLemmas.{left_less_then, passed_then, all_reached, some_stuck}
use Rattle.jm_sync.proofs.reach.check_reach.Goals as goal

pub loop-k-smaller : goal.loop-k-smaller
loop-k-smaller c =
    let passes = rw c.deref.ensures.value at c.in-Some.ensures.can in
    left_less_then (sync_of c.args.scripts.now) c.loop-k.fronts.items c.loop-k.posted c.loop-k.invariant c.in-Some.k (omega (arith, length-sync_of c.args.scripts.now, c.in-Some.ensures.within)) passes c.index_mut.result.now c.index_mut.ensures.value

pub loop-k-preserved : goal.loop-k-preserved
loop-k-preserved c =
    let passes = rw c.deref.ensures.value at c.in-Some.ensures.can in
    let here = script_at c.args.scripts.now c.in-Some.k c.index-scripts-k.result c.in-Some.ensures.within c.index-scripts-k.is in
    passed_then (sync_of c.args.scripts.now) c.loop-k.fronts.items c.loop-k.posted c.loop-k.invariant c.in-Some.k (omega (arith, length-sync_of c.args.scripts.now, c.in-Some.ensures.within)) passes c.index_mut.result.now c.index_mut.ensures.value
    c.index.result.now c.index-scripts-k.result.lines.items c.index-line.result.now c.index.ensures here (rw (← c.index-scripts-k.is) at c.index-line.ensures) c.pass.new.posted c.in_ok-pass.ensures

pub returns-clause-ok : goal.returns-clause-ok
returns-clause-ok c =
    let none = rw c.deref.ensures.value at (c.in_default.ensures.none refl) in
    all_reached _ _ _ c.loop-k.invariant none _ (rw c.deref-2.ensures.value at c.find_stuck.ensures.ok)

pub returns-clause-err : goal.returns-clause-err
returns-clause-err c =
    let none = rw c.deref.ensures.value at (c.in_default.ensures.none refl) in
    some_stuck _ _ _ c.loop-k.invariant none _ (rw c.deref-2.ensures.value at c.find_stuck.ensures.err)
