use Rattle.std.specs.Prelude.{ℕ}
use Rattle.jm_inputs.specs.declared.status.Status.{Status}
use Rattle.jm_inputs.specs.declared.status.Status.TheVariants.{Done, Usage, BadSpec, BadScript, ReadFailed, WriteFailed, NoMemory, BadHistory}

-- the exit status of the program
abbrev pub code_of : Status → ℕ
code_of Done = 0
code_of Usage = 2
code_of (BadSpec file fault) = 3
code_of (BadScript script fault) = 4
code_of (ReadFailed file) = 5
code_of WriteFailed = 6
code_of NoMemory = 7
code_of BadHistory = 8
