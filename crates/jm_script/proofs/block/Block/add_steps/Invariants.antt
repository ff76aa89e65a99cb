use Rattle.std.proofs.Common.{◌≡◌, ◌++◌, drop}
use mathlib.Core.List.{IsPrefix}
use Rattle.jm_semantics.specs.Scripts.{projection_of}
use Rattle.jm_script.specs.Projections.{script_of}
use Rattle.jm_script.proofs.block.Block.add_steps.Given as goal

abbrev pub invariant-loop-place : goal.invariant-loop-place
invariant-loop-place l = record {
  so_far : l.steps.items ++ projection_of (script_of (drop l.place l.self)) l.spec ≡ l.fn.steps.items ++ projection_of (script_of l.self) l.spec;
  kept : IsPrefix l.fn.steps.items l.steps.items;
}
