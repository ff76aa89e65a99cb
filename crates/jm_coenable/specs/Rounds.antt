-- The rounds of the work on the sets of a table's states, which end when nothing changes.
use Rattle.std.specs.Prelude.{ℕ, ◌≡◌, ◌<◌, ◌≤◌, ◌-◌, ◌⊎◌, Bool, true, false, List, Contains, length, sum_by, bit_or}
use Rattle.jm_events.specs.Events.{EventDefinitions}
use Rattle.jm_goal.specs.Goals.{GoalDefinition}
use Rattle.jm_table.specs.Tables.{Transitions}
use Rattle.jm_coenable.specs.Needs.{params_at, set_at, step_of, IsHandled, IsFirst, IsNeededFrom, IsArrival}

-- how many numbers below 256 the sets don't have
abbrev pub room_of : List (List ℕ) → ℕ
room_of sets = sum_by (λ set. 256 - length set) sets

-- A part of a round made these sets of those. What is sound stays so; where nothing changed, they are the same, and
-- closed as the part asks; where something did, there is less room.
pub record IsPart (Sound Closed : List (List ℕ) → Type 0) (old new : List (List ℕ)) (changed : Bool) : Type 0 where
  pub count : length new ≡ length old
  pub sound : Sound old → Sound new
  pub room : room_of new ≤ room_of old
  pub less : changed ≡ true → room_of new < room_of old
  pub same : changed ≡ false → new ≡ old
  pub closed : changed ≡ false → Closed new

-- one member more in the set of a place, where this is wanted
pub record IsPut (old new : List (List ℕ)) (wanted : Bool) (place member : ℕ) (changed : Bool) : Type 0 where
  pub count : length new ≡ length old
  pub only : (p m : ℕ) → Contains (set_at new p) m → Contains (set_at old p) m
      ⊎ ((wanted ≡ true) × (p ≡ place) × (m ≡ member))
  pub here : wanted ≡ true → Contains (set_at new place) member
  pub less : changed ≡ true → room_of new < room_of old
  pub same : changed ≡ false → new ≡ old

-- ---- needed masks

-- the members of the sets are needed
abbrev pub AreNeeded : Transitions → GoalDefinition → EventDefinitions → List (List ℕ) → Type 0
AreNeeded t g v sets =
    (state mask : ℕ) → state < t.states → Contains (set_at sets state) mask → IsNeededFrom t g v state mask

-- what is needed of this letter is in the set of the state, so far as masks below this number go
pub record IsClosedBelow (t : Transitions) (g : GoalDefinition) (v : EventDefinitions) (state letter below : ℕ)
    (sets : List (List ℕ)) : Type 0 where
  pub few : params_at v letter < 256
  pub hit : IsHandled t g (step_of t g state letter) → Contains (set_at sets state) (params_at v letter)
  pub more : (mask : ℕ) → mask < below → Contains (set_at sets (step_of t g state letter)) mask
      → Contains (set_at sets state) (bit_or (params_at v letter) mask)

abbrev pub IsClosedAt : Transitions → GoalDefinition → EventDefinitions → ℕ → ℕ → List (List ℕ) → Type 0
IsClosedAt t g v state letter sets = IsClosedBelow t g v state letter 256 sets

abbrev pub IsClosedState : Transitions → GoalDefinition → EventDefinitions → ℕ → List (List ℕ) → Type 0
IsClosedState t g v state sets = (letter : ℕ) → letter < t.letters → IsClosedAt t g v state letter sets

-- each state's set has what is needed there
abbrev pub AreClosedStates : Transitions → GoalDefinition → EventDefinitions → List (List ℕ) → Type 0
AreClosedStates t g v sets = (state : ℕ) → state < t.states → IsClosedState t g v state sets

-- ---- last letters

abbrev pub AreArrivals : Transitions → GoalDefinition → List (List ℕ) → Type 0
AreArrivals t g sets =
    (state last : ℕ) → state < t.states → Contains (set_at sets state) last → IsArrival t g state last

-- the letter is in the set of the state that it leads to, so far as last letters below this number go
pub record IsSpreadBelow (t : Transitions) (g : GoalDefinition) (state letter below : ℕ)
    (sets : List (List ℕ)) : Type 0 where
  pub first : state ≡ 0 → IsFirst g letter → Contains (set_at sets (step_of t g state letter)) letter
  pub more : (last : ℕ) → last < below → Contains (set_at sets state) last
      → Contains (set_at sets (step_of t g state letter)) letter

abbrev pub IsSpreadAt : Transitions → GoalDefinition → ℕ → ℕ → List (List ℕ) → Type 0
IsSpreadAt t g state letter sets = IsSpreadBelow t g state letter t.letters sets

abbrev pub IsSpreadState : Transitions → GoalDefinition → ℕ → List (List ℕ) → Type 0
IsSpreadState t g state sets = (letter : ℕ) → letter < t.letters → IsSpreadAt t g state letter sets

abbrev pub IsSpread : Transitions → GoalDefinition → List (List ℕ) → Type 0
IsSpread t g sets = (state : ℕ) → state < t.states → IsSpreadState t g state sets
