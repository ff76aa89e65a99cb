use Rattle.std.proofs.Common.{◌≡◌, ◌++◌, ℕ, List, drop}
use Rattle.jm_model.specs.declared.step.Step.{Step}
use Rattle.jm_semantics.specs.Legality.{IsLegal}
use Rattle.jm_semantics.specs.Scripts.{projection_of}
use Rattle.jm_core.specs.Replays.{Replayed}
use Rattle.jm_script.specs.Projections.{script_of}
use Rattle.jm_top.proofs.replay.replay_block.Given as goal

abbrev pub invariant-loop-place : goal.invariant-loop-place
invariant-loop-place g l = record {
  done : List (ℕ × Step);
  so_far : done ++ projection_of (script_of (drop l.place l.block)) 0 ≡ projection_of (script_of l.block) 0;
  replayed : Replayed 0 done l.fn.prop l.prop;
  legal : IsLegal (g.M.Monitor.meaning l.prop.definition) l.prop.entries;
}
