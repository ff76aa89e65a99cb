use Rattle.std.specs.Prelude.{ℕ, ◌≡◌, ◌<◌, ◌≤◌, ◌+◌, ◌*◌, List, length, All, Contains, Some, Ok, IsSomeAnd, slice_get, slice_index, fold}
use Rattle.jm_table.specs.Graphs.{GraphMeaning, reached_by}
use Rattle.jm_table.specs.Explorations.{most_states, IsWithoutRepeats}

-- A table of transitions: its states and letters are the numbers below these, state 0 is the start, the next states
-- stand state by state and letter by letter, and each group is the list of its states.
pub record Transitions : Type 0 where
  pub states : ℕ
  pub letters : ℕ
  pub next : List ℕ
  pub groups : List (List ℕ)

-- the state that a letter leads to
abbrev pub next_of : Transitions → ℕ → ℕ → ℕ
next_of t state letter = slice_index t.next (state * t.letters + letter)

-- the state that a word leads to from a state
abbrev pub state_from : Transitions → ℕ → List ℕ → ℕ
state_from t state word = fold (next_of t) state word

-- the state after a word, from the start
abbrev pub state_after_of : Transitions → List ℕ → ℕ
state_after_of t word = state_from t 0 word

-- the state is in the group
abbrev pub IsInGroup : Transitions → ℕ → ℕ → Type 0
IsInGroup t state group = IsSomeAnd (slice_get t.groups group) (λ states. Contains states state)

-- how many groups a table has at most
abbrev pub most_groups : ℕ
most_groups = 65535

-- between 1 and 1,024 states, at most 32 letters, a next state that is there for each state and letter, and fewer
-- than 65,536 groups
pub record IsTable (t : Transitions) : Type 0 where
  pub some_states : 0 < t.states
  pub few_states : t.states ≤ most_states
  pub few_letters : t.letters ≤ 32
  pub whole : length t.next ≡ t.states * t.letters
  pub within : All (λ state. state < t.states) t.next
  pub few_groups : length t.groups ≤ most_groups

-- the word has only letters of the table
abbrev pub IsWord : Transitions → List ℕ → Type 0
IsWord t word = All (λ letter. letter < t.letters) word

-- The table follows the graph, where state k stands for item k of the list: after each word its state stands for what
-- the graph reaches, each state is that after some word, and no two stand for the same.
pub record Follows {D : Type 0} (g : GraphMeaning D) (t : Transitions) (found : List D) : Type 0 where
  pub stands : (word : List ℕ) → IsWord t word → (d : D) × (reached_by g word ≡ Ok d)
      × (slice_get found (state_after_of t word) ≡ Some d)
  pub reached : (state : ℕ) → state < t.states → (word : List ℕ) × IsWord t word × (state_after_of t word ≡ state)
  pub distinct : IsWithoutRepeats found
  pub count : length found ≡ t.states
