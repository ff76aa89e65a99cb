use Rattle.std.proofs.Common.{length, refl, arith}
use Rattle.std.proofs.lemmas.Option.{slice_get_read}
use Rattle.jm_sync.proofs.CheckLemmas.{script_at, count_more, one_too_many, count_error}
use Rattle.jm_sync.proofs.checking.check_count.Goals as goal

pub returns-then-room-len-clause-err : goal.returns-then-room-len-clause-err
returns-then-room-len-clause-err c =
    let here = script_at c.args.scripts.now c.loop-k.k c.index-scripts-k.result (omega arith) c.index-scripts-k.is in
    let lines = c.index-scripts-k.result.lines.items in
    let at = slice_get_read lines (length lines) c.loop-k.room c.index.result.now refl (omega arith) c.index.ensures in
    count_error _ _ _ _ c.bad.ensures (one_too_many _ _ c.loop-k.room _ _ c.index.result.now here c.loop-k.invariant at refl)

pub loop-k-preserved : goal.loop-k-preserved
loop-k-preserved c =
    let here = script_at c.args.scripts.now c.loop-k.k c.index-scripts-k.result (omega arith) c.index-scripts-k.is in
    count_more _ c.loop-k.k c.loop-k.room c.len-room.result _ here c.loop-k.invariant (omega arith) (omega arith)
