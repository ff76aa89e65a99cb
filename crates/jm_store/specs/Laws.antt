-- What holds of all stores.
use Rattle.std.specs.Prelude.{ℕ, Bool, List}
use Rattle.jm_model.specs.Words.{Word}
use Rattle.jm_model.specs.Meanings.{Meaning}
use Rattle.jm_semantics.specs.Traces.{ParametricEvent}
use Rattle.jm_monitors.specs.Steps.{after_death}
use Rattle.jm_store.specs.Contents.{Contents, IsFitFor, IsStoreAfter}

-- a store stays one when an object dies
abbrev pub StoreAfterDeath : Meaning → {S : Type 0} → (S → Word → Type 0) → Type 0
StoreAfterDeath m {S} Stands =
    (trace : List ParametricEvent) (dead : List Bool) (store : Contents S) (o : ℕ)
    → IsStoreAfter m Stands trace dead store → IsStoreAfter m Stands trace (after_death dead o) store

-- a store that fits rules and a table of objects fits them when one of these dies
abbrev pub FitAfterDeath : Meaning → {S : Type 0} → (S → Word → Type 0) → Type 0
FitAfterDeath m {S} Stands =
    (store : Contents S) (dead : List Bool) (o : ℕ) → IsFitFor m Stands store dead
    → IsFitFor m Stands store (after_death dead o)
