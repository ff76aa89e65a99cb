-- What a state machine means: the path of a word.
use Rattle.std.specs.Prelude.{ℕ, ◌==◌, fold, find, option_map, unwrap_or, slice_get}
use Rattle.jm_model.specs.Words.{Word}
use Rattle.jm_fsm.specs.declared.machine.Destination.{Destination}
use Rattle.jm_fsm.specs.declared.machine.Destination.TheVariants.{State, Fail}
use Rattle.jm_fsm.specs.Machines.{StateDefinition, StateMachine}

-- where a letter leads from a state: the listed destination, else the `default`, else `fail`
abbrev pub destination_of : StateDefinition → ℕ → Destination
destination_of s letter = unwrap_or (option_map (λ t. t.destination) (find (λ t. t.letter.0 == letter) s.transitions))
    (unwrap_or s.fallback Fail)

-- where a letter leads; `fail` is never left
abbrev pub next_destination : StateMachine → Destination → ℕ → Destination
next_destination m Fail letter = Fail
next_destination m (State k) letter = unwrap_or (option_map (λ s. destination_of s letter) (slice_get m.states k)) Fail

-- where the path of a word ends that begins in the first state
abbrev pub fsm_state_after : StateMachine → Word → Destination
fsm_state_after m word = fold (next_destination m) (State 0) word
