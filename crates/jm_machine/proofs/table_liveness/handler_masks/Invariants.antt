use Rattle.std.proofs.Common.{◌≡◌, length}
use Rattle.jm_machine.specs.declared.engine.Engine.TheVariants.{States}
use Rattle.jm_machine.specs.Liveness.{AreHandlerMasks}
use Rattle.jm_machine.proofs.table_liveness.handler_masks.Given as goal

abbrev pub invariant-loop-state : goal.invariant-loop-state
invariant-loop-state l = record {
  count : length l.masks.items ≡ l.state;
  each : AreHandlerMasks (States l.table) l.goal l.masks.items;
}
