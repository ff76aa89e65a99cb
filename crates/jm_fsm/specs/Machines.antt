use Rattle.std.specs.Prelude.{List, Option}
use Rattle.jm_model.specs.Words.{Text}
use Rattle.jm_fsm.specs.declared.machine.Destination.{Destination}
use Rattle.jm_fsm.specs.declared.machine.Transition.{Transition}

-- a state: its name, the transitions that it lists, and where the letters lead that it doesn't list
pub record StateDefinition : Type 0 where
  pub name : Text
  pub transitions : List Transition
  pub fallback : Option Destination

-- an alias: its name, and its members
pub record AliasDefinition : Type 0 where
  pub name : Text
  pub members : List Destination

-- A state machine: its states, of which the first is the start, and its aliases. Beside these it has the state `fail`.
pub record StateMachine : Type 0 where
  pub states : List StateDefinition
  pub aliases : List AliasDefinition
