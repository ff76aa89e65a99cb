use Rattle.std.proofs.Common.{ℕ, List, ◌↔◌}
use Rattle.std.specs.Prelude.{IsBitSet, IsSomeAnd, slice_get}
use Rattle.jm_machine.specs.declared.engine.Engine.TheVariants.{States}
use Rattle.jm_machine.specs.declared.place.Place.TheVariants.{State}
use Rattle.jm_machine.specs.Engines.{IsPlaceOf, EngineHolds}
use Rattle.jm_machine.proofs.LivenessLemmas.{each_push, count_push}
use Rattle.jm_machine.proofs.table_liveness.handler_masks.Goals as goal

pub loop-state-preserved : goal.loop-state-preserved
loop-state-preserved c =
    let P : ℕ → ℕ → Type 0 =
    λ state mask. (word : List ℕ) → IsPlaceOf (States c.args.table.now) (State state) word → (k : ℕ) → IsBitSet mask k ↔ IsSomeAnd (slice_get c.args.goal.now.groups k) (λ group. EngineHolds (States c.args.table.now) group word) in
    record {
      count = rw c.in_ok-push.ensures.items (count_push c.loop-state.masks.items c.handlers_of_state.result c.loop-state.state c.loop-state.invariant.count);
      each = rw c.in_ok-push.ensures.items (each_push P c.loop-state.masks.items c.handlers_of_state.result c.loop-state.state c.loop-state.invariant.count c.loop-state.invariant.each c.handlers_of_state.ensures);
    }
