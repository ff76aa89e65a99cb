use Rattle.std.specs.Prelude.{ℕ, ◌≡◌, ◌<◌, ◌↔◌, Bool, true, false, List, Some, IsSomeAnd, slice_get, length}
use Rattle.jm_model.specs.Words.{Word}
use Rattle.jm_table.specs.Tables.{Transitions, IsWord, IsInGroup, next_of, state_from, state_after_of}
use Rattle.jm_ere.specs.Expressions.{Expression}
use Rattle.jm_ere.specs.Meanings.{InLanguage, IsFailed}
use Rattle.jm_ere.specs.NormalForms.{is_nullable}

-- After each word of the table's letters its state is in group 0, `match`, exactly where the word is in the language,
-- and in group 1, `fail`, exactly where no extension of the word, itself included, is.
pub record IsCompiled (e : Expression) (t : Transitions) : Type 0 where
  pub matched : (word : Word) → IsWord t word → IsInGroup t (state_after_of t word) 0 ↔ InLanguage e word
  pub failed : (word : Word) → IsWord t word → IsInGroup t (state_after_of t word) 1 ↔ IsFailed e t.letters word

-- ---- how the groups are found: state k stands for form k

-- the state's form has the empty word
abbrev pub IsMatching : List Expression → ℕ → Type 0
IsMatching forms state = IsSomeAnd (slice_get forms state) (λ r. is_nullable r ≡ true)

-- a word leads from the state to a matching one
abbrev pub LeadsToMatch : Transitions → List Expression → ℕ → Type 0
LeadsToMatch t forms state = (word : Word) × IsWord t word × IsMatching forms (state_from t state word)

-- the flags of matching states are set, and others only where a word leads to a matching state
pub record AreLive (t : Transitions) (forms : List Expression) (live : List Bool) : Type 0 where
  pub many : length live ≡ length forms
  pub all : (state : ℕ) → IsMatching forms state → slice_get live state ≡ Some true
  pub only : (state : ℕ) → slice_get live state ≡ Some true → LeadsToMatch t forms state

-- a letter leads from the state to one whose flag is set
abbrev pub LeadsToLive : Transitions → List Bool → ℕ → Type 0
LeadsToLive t live state = (letter : ℕ) × (letter < t.letters) × (slice_get live (next_of t state letter) ≡ Some true)

-- no letter leads from the state to one whose flag is set
abbrev pub LeadsToDead : Transitions → List Bool → ℕ → Type 0
LeadsToDead t live state = (letter : ℕ) → letter < t.letters → slice_get live (next_of t state letter) ≡ Some false

-- from states whose flag isn't set, letters lead to such states alone
abbrev pub DeadStaysDead : Transitions → List Bool → Type 0
DeadStaysDead t live = (state : ℕ) → slice_get live state ≡ Some false → LeadsToDead t live state

-- The table after has two groups, and the one before has none: the matching states, and those from which no word leads
-- to a matching one.
pub record HasGroups (forms : List Expression) (before after : Transitions) : Type 0 where
  pub states : after.states ≡ before.states
  pub letters : after.letters ≡ before.letters
  pub next : after.next ≡ before.next
  pub many : length after.groups ≡ 2
  pub matched : (state : ℕ) → IsInGroup after state 0 ↔ IsMatching forms state
  pub failed : (state : ℕ) → state < length forms → IsInGroup after state 1 ↔ (LeadsToMatch before forms state → ⊥)
