use Rattle.std.proofs.Common.{◌<◌, ◌≤◌, ◌^◌, subst, arith}
use Rattle.jm_marks.proofs.DeadLemmas.{bound_below}
use Rattle.jm_marks.proofs.bound.raised.Goals as goal

pub returns-clause-within : goal.returns-clause-within
returns-clause-within c =
    let end : c.room_for-p-end.result ≤ c.loop-p.p = omega arith in
    λ q o at.
    let low = bound_below c.args.binding.now c.room_for-p-end.result q o (subst (λ n. n < 2 ^ c.room_for-p-end.result) c.mask.ensures.value c.room_for-p-end.ensures.room) at in
    c.loop-p.invariant.within q o (omega (arith, low, end)) at
