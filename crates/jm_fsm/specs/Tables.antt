-- The table that a state machine is compiled to.
use Rattle.std.specs.Prelude.{ℕ, ◌≡◌, ◌<◌, ◌↔◌, List, length, Some, slice_get}
use Rattle.jm_model.specs.Words.{Word}
use Rattle.jm_table.specs.Explorations.{IsWithoutRepeats}
use Rattle.jm_table.specs.Tables.{Transitions, IsInGroup, IsWord, state_after_of}
use Rattle.jm_fsm.specs.declared.machine.Destination.{Destination}
use Rattle.jm_fsm.specs.Machines.{StateMachine}
use Rattle.jm_fsm.specs.Meanings.{fsm_state_after}
use Rattle.jm_fsm.specs.Categories.{category_count, FsmHolds}

-- Each state of the table stands for a state of the machine: after each word its state for where the word's path ends.
-- Each is the state after some word, and no two stand for the same. So the table holds the states that words reach, and
-- no others.
pub record HasStates (m : StateMachine) (t : Transitions) : Type 0 where
  pub destinations : List Destination
  pub count : length destinations ≡ t.states
  pub stands : (word : Word) → IsWord t word
      → slice_get destinations (state_after_of t word) ≡ Some (fsm_state_after m word)
  pub reached : (state : ℕ) → state < t.states → (word : Word) × IsWord t word × (state_after_of t word ≡ state)
  pub distinct : IsWithoutRepeats destinations

-- after each word of the table's letters the groups of the state are the categories that hold of the word
abbrev pub IsCompiled : StateMachine → Transitions → Type 0
IsCompiled m t =
    (word : Word) → IsWord t word → (category : ℕ) → category < category_count m
    → IsInGroup t (state_after_of t word) category ↔ FsmHolds m category word
