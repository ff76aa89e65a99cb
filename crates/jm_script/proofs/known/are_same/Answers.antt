use Rattle.std.proofs.Common.{◌≤◌, ◌+◌, ◌-◌, length, arith}
use Rattle.std.proofs.lemmas.Bool.{eqb-true}
use Rattle.jm_script.proofs.SameLemmas.{eight_more, eight_last}
use Rattle.jm_script.proofs.known.are_same.Goals as goal

pub loop-at-preserved : goal.loop-at-preserved
loop-at-preserved c = record {
  within = omega arith;
  so_far = eight_more c.args.a.now c.args.b.now c.loop-at.at _ _ c.loop-at.invariant.so_far c.eight.ensures c.eight-in-loop-at.ensures (omega arith);
}

pub returns : goal.returns
returns c =
    let before : length c.args.a.now - 8 ≤ c.loop-at.at = omega arith in
    let long_a : length c.args.a.now ≤ length c.args.a.now - 8 + 8 = omega arith in
    let long_b : length c.args.b.now ≤ length c.args.a.now - 8 + 8 = omega arith in
    λ is. eight_last c.args.a.now c.args.b.now c.loop-at.at (length c.args.a.now - 8) _ _ before long_a long_b c.loop-at.invariant.so_far c.eight-2.ensures c.eight-3.ensures (eqb-true _ _ is)
