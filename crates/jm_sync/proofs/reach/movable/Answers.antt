use Rattle.std.proofs.Common.{arith}
use Rattle.jm_sync.proofs.CheckLemmas.{length-sync_of, script_at}
use Rattle.jm_sync.proofs.ReachLemmas.{closed, none_more, none_past}
use Rattle.jm_sync.proofs.reach.movable.Goals as goal

pub loop-k-preserved : goal.loop-k-preserved
loop-k-preserved c =
    let here = script_at c.args.scripts.now c.loop-k.k c.index-scripts-k.result (omega arith) c.index-scripts-k.is in
    none_more _ _ _ c.loop-k.k _ here c.loop-k.invariant (closed _ _ _ _ _ c.deref.ensures.value c.is_open.ensures.1 c.if-is_open.false)

pub returns-clause-none : goal.returns-clause-none
returns-clause-none c = λ _. none_past _ _ _ c.loop-k.k (omega (arith, length-sync_of c.args.scripts.now)) c.loop-k.invariant
