-- What is asked of the sets that the rounds made.
use Rattle.std.specs.Prelude.{ℕ, ◌≡◌, ◌<◌, ◌↔◌, ◌⊎◌, List, Contains, length, bit_or}
use Rattle.jm_events.specs.Events.{EventDefinitions}
use Rattle.jm_goal.specs.Goals.{GoalDefinition}
use Rattle.jm_table.specs.Tables.{Transitions}
use Rattle.jm_coenable.specs.Needs.{params_at, set_at, step_of, IsHandled, IsFirst, IsAlive}

-- this mask is needed at some state where a word arrives with this last letter
abbrev pub IsNeededAtArrival : List (List ℕ) → List (List ℕ) → ℕ → ℕ → Type 0
IsNeededAtArrival arrivals needed letter mask =
    (state : ℕ) × (state < length needed) × Contains (set_at arrivals state) letter
    × Contains (set_at needed state) mask

-- the sets of dead parameters at which some mask of the set has none of them
abbrev pub AreDeadSets : List ℕ → List ℕ → Type 0
AreDeadSets needed alive = (dead : ℕ) → Contains alive dead ↔ ((dead < 256) × IsAlive (Contains needed) dead)

-- the masks below 256 of the letter
abbrev pub IsFamilySet : List (List ℕ) → List (List ℕ) → ℕ → List ℕ → Type 0
IsFamilySet arrivals needed letter family =
    (mask : ℕ) → Contains family mask ↔ ((mask < 256) × IsNeededAtArrival arrivals needed letter mask)

-- the mask is these parameters and those of a mask of the set
abbrev pub IsJoined : ℕ → List ℕ → ℕ → Type 0
IsJoined params rests mask = (rest : ℕ) × Contains rests rest × (mask ≡ bit_or params rest)

-- the mask is needed of this letter at the start: it leads to a handled state, or more is needed from where it leads
abbrev pub IsStep : Transitions → GoalDefinition → EventDefinitions → List (List ℕ) → ℕ → ℕ → Type 0
IsStep t g v needed letter mask =
    (IsHandled t g (step_of t g 0 letter) × (mask ≡ params_at v letter))
    ⊎ IsJoined (params_at v letter) (set_at needed (step_of t g 0 letter)) mask

-- the mask is needed of one of so many letters, with which a word may begin
abbrev pub IsStart : Transitions → GoalDefinition → EventDefinitions → List (List ℕ) → ℕ → ℕ → Type 0
IsStart t g v needed letters mask =
    (letter : ℕ) × (letter < letters) × IsFirst g letter × IsStep t g v needed letter mask
