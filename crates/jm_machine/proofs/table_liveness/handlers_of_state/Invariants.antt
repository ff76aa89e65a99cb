use Rattle.std.proofs.Common.{ℕ, List, ◌↔◌, take}
use Rattle.std.specs.Prelude.{IsBitSet, IsSomeAnd, slice_get}
use Rattle.jm_machine.specs.declared.place.Place.TheVariants.{State}
use Rattle.jm_machine.specs.declared.engine.Engine.TheVariants.{States}
use Rattle.jm_machine.specs.Engines.{IsPlaceOf, EngineHolds}
use Rattle.jm_machine.proofs.table_liveness.handlers_of_state.Given as goal

abbrev pub invariant-loop-handler : goal.invariant-loop-handler
invariant-loop-handler l = (word : List ℕ) → IsPlaceOf (States l.table) (State l.state) word → (k : ℕ) → IsBitSet l.hits k ↔ IsSomeAnd (slice_get (take l.handler l.goal.groups) k) (λ group. EngineHolds (States l.table) group word)
