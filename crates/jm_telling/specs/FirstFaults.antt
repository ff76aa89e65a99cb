-- When two first faults of a specification are one, and two jobs of a command.
use Rattle.std.specs.Prelude.{◌≡◌, ◌⊎◌}
use Rattle.jm_model.specs.declared.fault.SpecFault.{SpecFault}
use Rattle.jm_model.specs.declared.fault.SpecFault.TheVariants.{Syntax}
use Rattle.jm_inputs.specs.declared.status.Status.{Status}
use Rattle.jm_inputs.specs.declared.status.Status.TheVariants.{BadSpec, ReadFailed, NoMemory}
use Rattle.jm_inputs.specs.Jobs.{Job, Refused}

-- the fault is that tokens can't be read
abbrev pub IsSyntax : SpecFault → Type 0
IsSyntax (Syntax line) = Unit {0}
IsSyntax _ = ⊥

-- They are equal, or both are `Syntax`, whose line the definitions leave open.
abbrev pub IsSameFault : SpecFault → SpecFault → Type 0
IsSameFault fault other = (fault ≡ other) ⊎ (IsSyntax fault × IsSyntax other)

-- the statuses are equal, but for the line of `Syntax`
abbrev pub IsSameStatus : Status → Status → Type 0
IsSameStatus (BadSpec file fault) (BadSpec other another) = (file ≡ other) × IsSameFault fault another
IsSameStatus status other = status ≡ other

-- the jobs are equal, but for that line
abbrev pub IsSameJob : Job → Job → Type 0
IsSameJob (Refused status) (Refused other) = IsSameStatus status other
IsSameJob job other = job ≡ other

-- the status is that a file couldn't be read, or that memory was short
abbrev pub IsInterrupted : Status → Type 0
IsInterrupted (ReadFailed file) = Unit {0}
IsInterrupted NoMemory = Unit {0}
IsInterrupted _ = ⊥
