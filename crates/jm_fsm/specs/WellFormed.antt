-- What every state machine that is read meets.
use Rattle.std.specs.Prelude.{ℕ, ◌≡◌, ◌<◌, ◌≤◌, length, All, Some}
use Rattle.jm_fsm.specs.declared.machine.Destination.{Destination}
use Rattle.jm_fsm.specs.declared.machine.Destination.TheVariants.{State, Fail}
use Rattle.jm_fsm.specs.Machines.{StateMachine}
use Rattle.jm_fsm.specs.Categories.{category_names, AreDistinct}

-- the destination is one of so many states, or `fail`
abbrev pub IsDestination : ℕ → Destination → Type 0
IsDestination states Fail = Unit {0}
IsDestination states (State k) = k < states

-- At least one state; with `fail` there are at most 1,024, and at most 256 aliases; each destination and member is one
-- of the states, or `fail`; and no name is that of two categories.
pub record IsMachine (m : StateMachine) : Type 0 where
  pub some_states : 0 < length m.states
  pub few_states : length m.states ≤ 1023
  pub few_aliases : length m.aliases ≤ 256
  pub listed : All (λ s. All (λ t. IsDestination (length m.states) t.destination) s.transitions) m.states
  pub fallen : All (λ s. (destination : Destination) → s.fallback ≡ Some destination
      → IsDestination (length m.states) destination) m.states
  pub members : All (λ a. All (IsDestination (length m.states)) a.members) m.aliases
  pub distinct : AreDistinct (category_names m)
