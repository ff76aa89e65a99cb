-- What a property needs: its table, its goal, and the events whose letters are the table's.
use Rattle.std.specs.Prelude.{ℕ, ◌+◌, ◌≡◌, ◌==◌, ◌<◌, ◌↔◌, ◌⊎◌, Bool, false, ◌&&◌, ◌||◌, List, [], ◌∷◌, ◌++◌, Some, All, Contains, IsBitSet, length, bit_and, bit_or, slice_get, slice_index_or, option_map, unwrap_or, fold, nat_eq, if◌then◌else◌}
use Rattle.std.specs.Int.{bit_at}
use Rattle.std.specs.List.{list_any}
use Rattle.std.specs.Option.{option_map_or}
use Rattle.jm_events.specs.Events.{EventDefinitions}
use Rattle.jm_goal.specs.Goals.{GoalDefinition}
use Rattle.jm_table.specs.Tables.{Transitions, IsWord, IsInGroup, next_of}

-- the groups of the goal are in the table, and its letters are those of the events
pub record AreFit (t : Transitions) (g : GoalDefinition) (v : EventDefinitions) : Type 0 where
  pub groups : All (λ group. group < length t.groups) g.groups
  pub letters : length v.events ≡ t.letters

-- the parameters of a letter, as a mask
abbrev pub params_at : EventDefinitions → ℕ → ℕ
params_at v letter = unwrap_or (option_map (λ e. e.mask) (slice_get v.events letter)) 0

-- the parameters of a word's letters
abbrev pub params_of : EventDefinitions → List ℕ → ℕ
params_of v [] = 0
params_of v (letter ∷ word) = bit_or (params_at v letter) (params_of v word)

-- the state is in the group of a handler
abbrev pub IsHandled : Transitions → GoalDefinition → ℕ → Type 0
IsHandled t g state = (handler : ℕ) × (group : ℕ) × (slice_get g.groups handler ≡ Some group) × IsInGroup t state group

-- ---- where handlers reset

-- the state is in the group
abbrev pub is_in_group : Transitions → ℕ → ℕ → Bool
is_in_group t state group = option_map_or (list_any (nat_eq state)) (slice_get t.groups group) false

-- at the state a handler that resets is hit: one of these groups, of which the first is that of the handler of this
-- number
abbrev pub is_reset_from : Transitions → ℕ → ℕ → ℕ → List ℕ → Bool
is_reset_from t resets state number [] = false
is_reset_from t resets state number (group ∷ groups) =
    ((bit_at resets number == 1) && is_in_group t state group) || is_reset_from t resets state (number + 1) groups

abbrev pub is_reset : Transitions → GoalDefinition → ℕ → Bool
is_reset t g state = is_reset_from t g.resets state 0 g.groups

-- where letters lead on from: the start, if the property was reset at the state, and else the state
abbrev pub origin_of : Transitions → GoalDefinition → ℕ → ℕ
origin_of t g state = if is_reset t g state then 0 else state

-- the state that a letter leads to, and the one that a word leads to from a state
abbrev pub step_of : Transitions → GoalDefinition → ℕ → ℕ → ℕ
step_of t g state letter = next_of t (origin_of t g state) letter

abbrev pub run_from : Transitions → GoalDefinition → ℕ → List ℕ → ℕ
run_from t g state word = fold (step_of t g) state word

-- ---- what is needed

-- a word may begin with the letter: it is a creation letter, or there are none
abbrev pub IsFirst : GoalDefinition → ℕ → Type 0
IsFirst g letter = (g.creation ≡ 0) ⊎ IsBitSet g.creation letter

-- this word of one letter or more has exactly these parameters, and leads from the state to a handled one
pub record IsHitBy (t : Transitions) (g : GoalDefinition) (v : EventDefinitions) (state first : ℕ) (rest : List ℕ)
    (mask : ℕ) : Type 0 where
  pub letters : IsWord t (first ∷ rest)
  pub hit : IsHandled t g (run_from t g state (first ∷ rest))
  pub params : mask ≡ params_of v (first ∷ rest)

-- from the state these parameters are needed: some word with exactly these leads to a handled state
abbrev pub IsNeededFrom : Transitions → GoalDefinition → EventDefinitions → ℕ → ℕ → Type 0
IsNeededFrom t g v state mask = (first : ℕ) × (rest : List ℕ) × IsHitBy t g v state first rest mask

-- after the empty word these are needed: some word that may begin so leads from the start to a handled state
abbrev pub IsNeededAtStart : Transitions → GoalDefinition → EventDefinitions → ℕ → Type 0
IsNeededAtStart t g v mask = (first : ℕ) × (rest : List ℕ) × IsFirst g first × IsHitBy t g v 0 first rest mask

-- some word that may begin so, and ends in the letter, leads from the start to the state
pub record IsArrival (t : Transitions) (g : GoalDefinition) (state last : ℕ) : Type 0 where
  pub before : List ℕ
  pub first : ℕ
  pub rest : List ℕ
  pub ends : first ∷ rest ≡ before ++ last ∷ []
  pub letters : IsWord t (first ∷ rest)
  pub begins : IsFirst g first
  pub leads : run_from t g 0 (first ∷ rest) ≡ state

-- after some word that ends in the letter these parameters are needed
abbrev pub IsInFamily : Transitions → GoalDefinition → EventDefinitions → ℕ → ℕ → Type 0
IsInFamily t g v letter mask = (state : ℕ) × IsArrival t g state letter × IsNeededFrom t g v state mask

-- some mask of the set has none of the dead parameters
abbrev pub IsAlive : (ℕ → Type 0) → ℕ → Type 0
IsAlive Needed dead = (mask : ℕ) × Needed mask × (bit_and mask dead ≡ 0)

-- what is kept: for each state, and for the empty word, the sets of dead parameters at which it can still be hit, and
-- for each letter its family
pub record NeedSets : Type 0 where
  pub alive : List (List ℕ)
  pub start : List ℕ
  pub families : List (List ℕ)

-- the set of this place
abbrev pub set_at : List (List ℕ) → ℕ → List ℕ
set_at sets place = slice_index_or sets place []

-- the sets are those of this property; masks are below 256
pub record AreNeedsOf (t : Transitions) (g : GoalDefinition) (v : EventDefinitions) (n : NeedSets) : Type 0 where
  pub states : length n.alive ≡ t.states
  pub letters : length n.families ≡ t.letters
  pub alive : (state dead : ℕ) → state < t.states → dead < 256
      → Contains (set_at n.alive state) dead ↔ IsAlive (IsNeededFrom t g v state) dead
  pub start : (dead : ℕ) → dead < 256 → Contains n.start dead ↔ IsAlive (IsNeededAtStart t g v) dead
  pub families : (letter mask : ℕ) → letter < t.letters → mask < 256
      → Contains (set_at n.families letter) mask ↔ IsInFamily t g v letter mask
