-- The members of a group, as places of a list.
use Rattle.std.specs.Prelude.{ℕ, ◌<◌, ◌⊎◌, Bool, true, false, List, Contains, IsSomeAnd, slice_get}

-- the places below n of the list are asked: at each of these the answer may be true, and at each other false
pub record ArePlaces {X : Type 0} (Answers : X → Bool → Type 0) (xs : List X) (n : ℕ) (places : List ℕ) : Type 0 where
  pub below : (place : ℕ) → Contains places place → place < n
  pub yes : (place : ℕ) → Contains places place → IsSomeAnd (slice_get xs place) (λ x. Answers x true)
  pub no : (place : ℕ) → place < n → Contains places place ⊎ IsSomeAnd (slice_get xs place) (λ x. Answers x false)
