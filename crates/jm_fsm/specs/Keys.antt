use Rattle.std.specs.Prelude.{ℕ}
use Rattle.jm_fsm.specs.declared.machine.Destination.{Destination}
use Rattle.jm_fsm.specs.declared.machine.Destination.TheVariants.{State, Fail}

-- a hash of a state, which tells apart those of a machine
abbrev pub key_of : Destination → ℕ
key_of (State k) = k
key_of Fail = 1023
