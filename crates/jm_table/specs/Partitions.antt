use Rattle.std.specs.Prelude.{ℕ, ◌≡◌, ◌≢◌, ◌<◌, ◌≤◌, ◌+◌, ◌*◌, ◌↔◌, ◌⊎◌, List, length, slice_index}
use Rattle.jm_table.specs.Tables.{Transitions, next_of, IsInGroup}
use Rattle.jm_table.specs.Minimal.{GroupTells, AreDistinguishable}
use Rattle.jm_table.specs.declared.refinement.Test.{Test}
use Rattle.jm_table.specs.declared.refinement.Test.TheVariants.{Group, Letters}

-- Classes of states, and how they are split.

-- The states below n have classes, each of which has a first state: that of class 0 is state 0.
pub record IsPartition (n : ℕ) (classes firsts : List ℕ) : Type 0 where
  pub count : length classes ≡ n
  pub some_class : 0 < length firsts
  pub few : length firsts ≤ n
  pub start : slice_index firsts 0 ≡ 0
  pub within : (p : ℕ) → p < n → slice_index classes p < length firsts
  pub first : (c : ℕ) → c < length firsts
      → (slice_index firsts c < n) × (slice_index classes (slice_index firsts c) ≡ c)

-- states of different classes can be told apart
abbrev pub IsSound : Transitions → List ℕ → Type 0
IsSound t classes =
    (p q : ℕ) → p < t.states → q < t.states → slice_index classes p ≢ slice_index classes q → AreDistinguishable t p q

-- the classes of a table's states, of which those of different classes can be told apart
pub record AreClasses (t : Transitions) (classes firsts : List ℕ) : Type 0 where
  pub partition : IsPartition t.states classes firsts
  pub sound : IsSound t classes

-- of each class all states are in the group, or none
abbrev pub AgreesIn : Transitions → List ℕ → ℕ → Type 0
AgreesIn t classes group =
    (p q : ℕ) → p < t.states → q < t.states → slice_index classes p ≡ slice_index classes q
    → IsInGroup t p group ↔ IsInGroup t q group

-- the same of each group below this number
abbrev pub AgreesBelow : Transitions → List ℕ → ℕ → Type 0
AgreesBelow t classes groups = (group : ℕ) → group < groups → AgreesIn t classes group

-- each letter leads from states of one class to states of one class
abbrev pub IsStable : Transitions → List ℕ → Type 0
IsStable t classes =
    (p q : ℕ) → p < t.states → q < t.states → slice_index classes p ≡ slice_index classes q
    → (letter : ℕ) → letter < t.letters
    → slice_index classes (next_of t p letter) ≡ slice_index classes (next_of t q letter)

-- states of one class were of one class before
abbrev pub IsFiner : ℕ → List ℕ → List ℕ → Type 0
IsFiner n old new =
    (p q : ℕ) → p < n → q < n → slice_index new p ≡ slice_index new q → slice_index old p ≡ slice_index old q

-- ---- tests of two states

-- the test tells the states apart
abbrev pub Tells : Test → Transitions → List ℕ → ℕ → ℕ → Type 0
Tells (Group group) t classes p q = GroupTells t group p q
Tells Letters t classes p q =
    (letter : ℕ) × (letter < t.letters)
    × (slice_index classes (next_of t p letter) ≢ slice_index classes (next_of t q letter))

-- the test finds no difference
abbrev pub FindsAlike : Test → Transitions → List ℕ → ℕ → ℕ → Type 0
FindsAlike (Group group) t classes p q = IsInGroup t p group ↔ IsInGroup t q group
FindsAlike Letters t classes p q =
    (letter : ℕ) → letter < t.letters
    → slice_index classes (next_of t p letter) ≡ slice_index classes (next_of t q letter)

-- the test is of a group that is there, or of letters
abbrev pub IsTestOf : Transitions → Test → Type 0
IsTestOf t (Group group) = group < length t.groups
IsTestOf t Letters = Unit {0}

-- the first state of a state's class
abbrev pub first_of : List ℕ → List ℕ → ℕ → ℕ
first_of classes firsts p = slice_index firsts (slice_index classes p)

-- the key of a state is its class, where the test finds it like the first state of its class, and else a number after
-- all classes
abbrev pub IsKeyOf : Test → Transitions → List ℕ → List ℕ → ℕ → ℕ → Type 0
IsKeyOf test t classes firsts p key =
    ((key ≡ slice_index classes p) × FindsAlike test t classes p (first_of classes firsts p))
    ⊎ ((key ≡ slice_index classes p + length firsts) × Tells test t classes p (first_of classes firsts p))

-- ---- classes by keys

-- the key has this number: it is the key of the number's first state
pub record IsKnown (keys numbers firsts : List ℕ) (key number : ℕ) : Type 0 where
  pub here : slice_index numbers key ≡ number
  pub within : number < length firsts
  pub first : slice_index keys (slice_index firsts number) ≡ key

-- each number that was given is that of the key of its first state, which is below n
abbrev pub AreGiven : ℕ → List ℕ → List ℕ → List ℕ → Type 0
AreGiven n keys numbers firsts =
    (c : ℕ) → c < length firsts
    → (slice_index firsts c < n) × (slice_index numbers (slice_index keys (slice_index firsts c)) ≡ c)

-- The numbers that were given are still those of their keys, and their first states are the same; there is one more at
-- most.
pub record AreGivenOn (keys numbers firsts new_numbers new_firsts : List ℕ) : Type 0 where
  pub given : AreGiven (length keys) keys new_numbers new_firsts
  pub kept : (key number : ℕ) → IsKnown keys numbers firsts key number → IsKnown keys new_numbers new_firsts key number
  pub prefix : (c : ℕ) → c < length firsts → slice_index new_firsts c ≡ slice_index firsts c
  pub grown : (length firsts ≤ length new_firsts) × (length new_firsts ≤ length firsts + 1)
  pub size : length new_numbers ≡ length numbers

-- the keys can give classes in which the first states keep their classes
pub record FitClasses (n : ℕ) (firsts keys : List ℕ) : Type 0 where
  pub count : length keys ≡ n
  pub within : (p : ℕ) → p < n → slice_index keys p < 2 * length firsts
  pub first : (c : ℕ) → c < length firsts → slice_index keys (slice_index firsts c) ≡ c

-- States have one class exactly where they have one key; there is a class more where a key is none of the classes that
-- were there.
pub record AreNumbered (n : ℕ) (keys firsts new_classes new_firsts : List ℕ) : Type 0 where
  pub partition : IsPartition n new_classes new_firsts
  pub by_keys : (p q : ℕ) → p < n → q < n
      → (slice_index new_classes p ≡ slice_index new_classes q) ↔ (slice_index keys p ≡ slice_index keys q)
  pub grown : length firsts ≤ length new_firsts
  pub more : (p : ℕ) → p < n → length firsts ≤ slice_index keys p → length firsts < length new_firsts
