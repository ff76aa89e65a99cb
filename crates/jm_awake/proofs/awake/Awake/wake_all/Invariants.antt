use Rattle.std.proofs.Common.{◌<◌, ◌^◌}
use Rattle.jm_awake.proofs.WakeLemmas.{IsWaking}
use Rattle.jm_awake.proofs.awake.Awake.wake_all.Given as goal

abbrev pub invariant-loop-left : goal.invariant-loop-left
invariant-loop-left l = record {
  fits : l.left < 2 ^ 32;
  waking : IsWaking l.slot l.instance l.fn.self l.initial.left l.self l.left;
}

abbrev pub decreases-loop-left : goal.decreases-loop-left
decreases-loop-left l = l.left
