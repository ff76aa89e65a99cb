use Rattle.std.specs.Prelude.{ℕ, ◌≡◌, ◌<◌, ◌≢◌, Bool, List, [], ◌∷◌, ◌++◌, Contains, bit_and, MatchBool, ◌⊎◌}
use Rattle.std.specs.List.{AllByRecursion}
use Rattle.jm_model.specs.Words.{Word, Mask}

-- What a specification means, whatever logic its properties are written in.
pub record Meaning : Type 1 where
  pub letters : ℕ  -- its letters are the numbers below this one
  pub params : ℕ → Mask  -- the parameters of a letter
  pub must_bind : Mask  -- the parameters that a reported instance has to bind
  pub creation : List ℕ  -- the creation letters; none: any letter may come first
  pub handlers : ℕ  -- its handlers are the numbers below this one
  pub property_of : ℕ → ℕ  -- the number of the property that a handler belongs to
  -- handler k runs after word w, if w begins as it may: its category holds of what is left of w since the last reset
  -- of its property
  pub Holds : Word → ℕ → Type 0
  pub coarse_cut : ℕ → Bool  -- property j is a grammar with a handler for `fail`: see `IsPropertyCut`

-- the word may begin an instance's life: where creation letters exist, its first letter is one
abbrev pub IsCreated : Meaning → Word → Type 0
IsCreated m [] = Unit {0}
IsCreated m (e ∷ w) = (m.creation ≡ []) ⊎ Contains m.creation e

-- handler k is hit by the word, which isn't empty
abbrev pub IsHit : Meaning → Word → ℕ → Type 0
IsHit m w k = (w ≢ []) × IsCreated m w × (k < m.handlers) × m.Holds w k

-- letter e is available: none of its parameters is dead
abbrev pub IsAvailable : Meaning → Mask → ℕ → Type 0
IsAvailable m dead e = (e < m.letters) × (bit_and (m.params e) dead ≡ 0)

-- some word of one or more available letters, put after w, hits a handler of property j
pub record CanHit (m : Meaning) (w : Word) (dead : Mask) (j : ℕ) : Type 0 where
  pub next : ℕ
  pub rest : Word
  pub handler : ℕ
  pub available : AllByRecursion (IsAvailable m dead) (next ∷ rest)
  pub hit : IsHit m (w ++ next ∷ rest) handler
  pub owner : m.property_of handler ≡ j

-- Property j is cut: none of its handlers can run any more. A grammar with a handler for `fail`, of which this
-- can't be computed, is cut only when no letter is available.
abbrev pub IsPropertyCut : Meaning → Word → Mask → ℕ → Type 0
IsPropertyCut m w dead j = MatchBool (m.coarse_cut j) ((e : ℕ) → IsAvailable m dead e → ⊥) (CanHit m w dead j → ⊥)

-- An instance with slice w and this set of dead parameters is cut, so that it can never fire again: each property
-- that has a handler is cut.
abbrev pub IsCutWord : Meaning → Word → Mask → Type 0
IsCutWord m w dead = (k : ℕ) → k < m.handlers → IsPropertyCut m w dead (m.property_of k)
