use Rattle.std.proofs.Common.{◌<◌, ◌≤◌, sym, length, arith}
use Rattle.jm_audit.proofs.FlagLemmas.{mask-end, mask-room, mask-before}
use Rattle.jm_audit.proofs.dead.dead_mask.Goals as goal

pub loop-p-init : goal.loop-p-init
loop-p-init c = record {
  low = omega arith;
  dead = sym (mask-end c.args.flags.now c.args.binding.now 8 (omega (arith, c.mask-mask.ensures.eight)));
}

pub overflow_mul-dead : goal.overflow_mul-dead
overflow_mul-dead c =
    let room : c.loop-p.dead < 128 = rw c.loop-p.invariant.dead (mask-room _ _ _ c.mask-mask.ensures.eight c.loop-p-test.true) in
    omega arith

pub overflow_add-dead : goal.overflow_add-dead
overflow_add-dead c =
    let room : c.loop-p.dead < 128 = rw c.loop-p.invariant.dead (mask-room _ _ _ c.mask-mask.ensures.eight c.loop-p-test.true) in
    omega (arith, c.dead_bit.ensures.bit)

pub loop-p-preserved : goal.loop-p-preserved
loop-p-preserved c =
    let within : c.loop-p.p ≤ length c.args.binding.now = omega (arith, c.mask-mask.ensures.eight, c.loop-p.invariant.low) in
    record {
      low = omega arith;
      dead = sym (mask-before _ _ _ _ _ c.dead_bit.ensures.value c.loop-p.invariant.dead c.loop-p-test.true within);
    }
