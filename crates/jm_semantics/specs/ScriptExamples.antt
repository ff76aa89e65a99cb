use Rattle.std.specs.Prelude.{ℕ, List, [], ◌∷◌, None, Some}
use Rattle.jm_model.specs.declared.step.Step.TheVariants.{Death, Pass}
use Rattle.jm_model.specs.declared.step.Entry.{Entry}
use Rattle.jm_semantics.specs.Scripts.{ScriptLine}
use Rattle.jm_semantics.specs.ExampleEntries.{binding, event_of, death}
use Rattle.jm_semantics.specs.UnsafeIterExamples.{both, create, update, next}

-- two scripts over UnsafeIter, which is specification 0, with a line for another specification and a death
abbrev pub scripts : List (List ScriptLine)
scripts =
    (record { line = 1; spec = Some 0; step = event_of 0 (both 0 1) } ∷
    record { line = 2; spec = Some 1; step = Pass } ∷
    record { line = 3; spec = Some 0; step = event_of 1 (binding (Some 0) None None) } ∷ []) ∷
    (record { line = 1; spec = Some 0; step = event_of 2 (binding None (Some 1) None) } ∷
    record { line = 2; spec = None; step = Death 1 } ∷ []) ∷ []

-- the same entry, of another caller
abbrev pub of_caller : ℕ → Entry → Entry
of_caller k x = record x { caller = k }

-- a history of both
abbrev pub interleaved : List Entry
interleaved = create 1 0 1 [] ∷ of_caller 1 (next 1 1 []) ∷ update 3 0 [] ∷ of_caller 1 (death 2 1) ∷ []

-- the same but for the order of the first caller's two entries
abbrev pub swapped : List Entry
swapped = update 3 0 [] ∷ of_caller 1 (next 1 1 []) ∷ create 1 0 1 [] ∷ of_caller 1 (death 2 1) ∷ []
