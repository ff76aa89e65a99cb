use Rattle.std.specs.Prelude.{ℕ, ◌≡◌, ◌≢◌, ◌<◌, ◌↔◌, ◌⊎◌, List}
use Rattle.jm_table.specs.Tables.{Transitions, IsWord, IsInGroup, state_from, state_after_of}

-- What a minimal table is: each of its states is that after some word, and no two of them agree in groups after all
-- words.

-- one of two states is in the group, and the other isn't
abbrev pub GroupTells : Transitions → ℕ → ℕ → ℕ → Type 0
GroupTells t group p q =
    (IsInGroup t p group × (IsInGroup t q group → ⊥)) ⊎ (IsInGroup t q group × (IsInGroup t p group → ⊥))

-- some word, maybe the empty one, leads from two states to states of which one is in a group that the other isn't in
abbrev pub AreDistinguishable : Transitions → ℕ → ℕ → Type 0
AreDistinguishable t p q =
    (word : List ℕ) × IsWord t word × ((group : ℕ) × GroupTells t group (state_from t p word) (state_from t q word))

-- no two states agree in groups after all words
abbrev pub IsReduced : Transitions → Type 0
IsReduced t = (p q : ℕ) → p < t.states → q < t.states → p ≢ q → AreDistinguishable t p q

-- each state is that after some word
abbrev pub IsReachable : Transitions → Type 0
IsReachable t =
    (state : ℕ) → state < t.states → (word : List ℕ) × IsWord t word × (state_after_of t word ≡ state)

-- after each word, the empty one included, the two tables are in the same groups
abbrev pub HaveSameGroups : Transitions → Transitions → Type 0
HaveSameGroups t u =
    (word : List ℕ) → IsWord t word → (group : ℕ)
    → IsInGroup u (state_after_of u word) group ↔ IsInGroup t (state_after_of t word) group
