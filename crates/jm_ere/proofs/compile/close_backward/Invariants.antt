use Rattle.std.proofs.Common.{◌≡◌, List, vec_len}
use Rattle.jm_ere.specs.Expressions.{Expression}
use Rattle.jm_ere.specs.Groups.{AreLive}
use Rattle.jm_ere.proofs.LiveLemmas.{dead_count}
use Rattle.jm_ere.proofs.compile.close_backward.Given as goal

abbrev pub invariant-loop-state : goal.invariant-loop-state
invariant-loop-state l = record {
  many : vec_len l.live ≡ l.table.states;
  sound : (forms : List Expression) → AreLive l.table forms l.initial.live.items → AreLive l.table forms l.live.items;
}

abbrev pub decreases-loop-state : goal.decreases-loop-state
decreases-loop-state l = dead_count l.live.items
