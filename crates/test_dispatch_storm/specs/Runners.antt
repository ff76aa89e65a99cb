-- What a thread of a storm is given.
use Rattle.std.specs.Prelude.{ℕ, List, All}
use Rattle.jm_model.specs.Meanings.{Meaning}
use Rattle.jm_model.specs.declared.step.Step.{Step}
use Rattle.jm_turn.specs.Seats.{LockModel, SeatModel, NoteModel, IsSeatOf, IsNoteOf}
use Rattle.jm_core.specs.Steps.{IsFitStep}

-- a seat of the lock, and a note that it is to hear
abbrev pub IsRunnerOf : {E F : Type 0} → LockModel F → SeatModel E F × NoteModel E F → Type 0
IsRunnerOf lock runner = IsSeatOf lock runner.0 × IsNoteOf lock runner.1

-- steps of the specification, on objects below n
abbrev pub AreFitSteps : Meaning → ℕ → List Step → Type 0
AreFitSteps m n steps = All (λ s. IsFitStep m n s) steps
