use Rattle.jm_semantics.specs.Legality.{IsLegal}
use Rattle.jm_core.specs.Replays.{Replayed}
use Rattle.jm_script.specs.Blocks.{steps_in}
use Rattle.jm_top.proofs.replay.core_after.Given as goal

abbrev pub invariant-loop-block : goal.invariant-loop-block
invariant-loop-block g l = record {
  legal : IsLegal (g.M.Monitor.meaning l.prop.definition) l.prop.entries;
  done : Replayed 0 (steps_in 0 l.yielded) l.initial.prop l.prop;
}
