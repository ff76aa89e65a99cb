use Rattle.std.proofs.Common.{◌<◌, ◌≤◌, ◌^◌, subst, sym, length, arith}
use Rattle.jm_marks.proofs.DeadLemmas.{alive_of, dead_mask-alive, dead_mask-behind, dead_mask-room, dead_mask-before}
use Rattle.jm_marks.proofs.dead.dead_mask.Goals as goal

pub returns-then-not-any_dead : goal.returns-then-not-any_dead
returns-then-not-any_dead c = sym (dead_mask-alive _ _ (λ o. alive_of _ o (c.any_dead.ensures c.if-not-any_dead.true o)))

pub loop-p-init : goal.loop-p-init
loop-p-init c = record {
  low = c.room_for-p.ensures.bounded;
  dead = sym (dead_mask-behind _ _ _ (subst (λ n. n < 2 ^ c.room_for-p.result) c.mask-mask.ensures.value c.room_for-p.ensures.room));
}

pub overflow_mul-dead : goal.overflow_mul-dead
overflow_mul-dead c =
    let room : c.loop-p.dead < 128 = rw c.loop-p.invariant.dead (dead_mask-room _ _ _ c.mask-mask.ensures.eight c.loop-p-test.true) in
    omega arith

pub overflow_add-dead : goal.overflow_add-dead
overflow_add-dead c =
    let room : c.loop-p.dead < 128 = rw c.loop-p.invariant.dead (dead_mask-room _ _ _ c.mask-mask.ensures.eight c.loop-p-test.true) in
    omega (arith, c.dead_bit.ensures.bit)

pub loop-p-preserved : goal.loop-p-preserved
loop-p-preserved c =
    let within : c.loop-p.p ≤ length c.args.binding.now = omega (arith, c.mask-mask.ensures.eight, c.loop-p.invariant.low) in
    record {
      low = omega arith;
      dead = sym (dead_mask-before _ _ _ _ _ c.dead_bit.ensures.value c.loop-p.invariant.dead c.loop-p-test.true within);
    }
