-- The steps that a core takes.
use Rattle.std.specs.Prelude.{ℕ, ◌<◌, All}
use Rattle.jm_model.specs.Meanings.{Meaning}
use Rattle.jm_model.specs.Bindings.{objects_of}
use Rattle.jm_model.specs.declared.step.Step.{Step}
use Rattle.jm_model.specs.declared.step.Step.TheVariants.{Event, Death, Pass}
use Rattle.jm_semantics.specs.Legality.{IsStepOf}

-- the step is an event of the specification, of objects below n
abbrev pub IsEventOf : Meaning → ℕ → Step → Type 0
IsEventOf m n (Event e b) = IsStepOf m (Event e b) × All (λ o. o < n) (objects_of b)
IsEventOf m n (Death o) = ⊥
IsEventOf m n Pass = ⊥

-- the step is the death of an object below n
abbrev pub IsDeathOf : ℕ → Step → Type 0
IsDeathOf n (Event e b) = ⊥
IsDeathOf n (Death o) = o < n
IsDeathOf n Pass = ⊥

-- the step is an event of the specification, of objects below n, the death of an object below n, or a pass
abbrev pub IsFitStep : Meaning → ℕ → Step → Type 0
IsFitStep m n (Event e b) = IsEventOf m n (Event e b)
IsFitStep m n (Death o) = o < n
IsFitStep m n Pass = Unit {0}
