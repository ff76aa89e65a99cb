use Rattle.std.proofs.Common.{arith}
use Rattle.jm_sync.specs.Checks.{sync_of}
use Rattle.jm_sync.proofs.CheckLemmas.{script_at, posts_script, second_post, post_error}
use Rattle.jm_sync.proofs.checking.check_posts.Goals as goal

pub returns-in-Some-clause-err : goal.returns-in-Some-clause-err
returns-in-Some-clause-err c =
    let here = script_at c.args.scripts.now c.loop-k.k c.index-scripts-k.result (omega arith) c.index-scripts-k.is in
    let second = rw (c.in-Some.is, c.deref.ensures.value) at c.in_ok-line.ensures in
    post_error _ _ _ _ c.bad.ensures (second_post _ c.loop-k.k _ _ c.loop-k.posted here c.loop-k.invariant.posts c.loop-k.invariant.distinct second)

pub loop-k-preserved : goal.loop-k-preserved
loop-k-preserved c =
    let here = script_at c.args.scripts.now c.loop-k.k c.index-scripts-k.result (omega arith) c.index-scripts-k.is in
    let over = rw (c.in_default.is, c.deref.ensures.value) at c.in_ok-line.ensures in
    record { posts = posts_script (sync_of c.args.scripts.now) c.loop-k.k _ _ _ here c.loop-k.invariant.posts over; distinct = over.distinct c.loop-k.invariant.distinct }
