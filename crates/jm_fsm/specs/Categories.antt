-- The categories of a state machine. They are numbered: the states, then the aliases, then `fail`.
use Rattle.std.specs.Prelude.{ℕ, ◌≡◌, ◌<◌, ◌≤◌, ◌+◌, ◌⊎◌, List, [], ◌∷◌, ◌++◌, length, map, Contains, IsSomeAnd, slice_get, codes, count_by}
use Rattle.std.specs.Str.{bytes_eq}
use Rattle.jm_model.specs.Words.{Text, Word}
use Rattle.jm_fsm.specs.declared.machine.Destination.{Destination}
use Rattle.jm_fsm.specs.declared.machine.Destination.TheVariants.{State, Fail}
use Rattle.jm_fsm.specs.Machines.{StateMachine}
use Rattle.jm_fsm.specs.Meanings.{fsm_state_after}

-- the names of the categories
abbrev pub category_names : StateMachine → List Text
category_names m = map (λ s. s.name) m.states ++ (map (λ a. a.name) m.aliases ++ codes "fail" ∷ [])

-- no name stands twice
abbrev pub AreDistinct : List Text → Type 0
AreDistinct names = (name : Text) → count_by (bytes_eq name) names ≤ 1

-- how many categories there are
abbrev pub category_count : StateMachine → ℕ
category_count m = length m.states + length m.aliases + 1

-- the states that are members of a category
abbrev pub IsMember : StateMachine → ℕ → Destination → Type 0
IsMember m category destination =
    ((category < length m.states) × (destination ≡ State category))
    ⊎ (((j : ℕ) × (category ≡ length m.states + j)
    × IsSomeAnd (slice_get m.aliases j) (λ a. Contains a.members destination))
    ⊎ ((category ≡ length m.states + length m.aliases) × (destination ≡ Fail)))

-- the category holds of the word: its path ends in a member
abbrev pub FsmHolds : StateMachine → ℕ → Word → Type 0
FsmHolds m category word = IsMember m category (fsm_state_after m word)
