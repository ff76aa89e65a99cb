-- The places that a chart keeps.
use Rattle.std.specs.Prelude.{ℕ, ◌≡◌, ◌<◌, ◌≤◌, ◌+◌, ◌-◌, ◌==◌, ◌⊎◌, List, [], ◌∷◌, Option, Some, None, Contains, length, slice_get, if◌then◌else◌}
use Rattle.jm_earley.specs.declared.item.Item.{Item}
use Rattle.jm_earley.specs.declared.earley_set.EarleySet.{EarleySet}

-- the place at a position
abbrev pub place_at : List EarleySet → ℕ → Option EarleySet
place_at [] position = None
place_at (p ∷ places) position = if p.position == position then Some p else place_at places position

module _ (places : List EarleySet) where
  -- positions increase
  abbrev pub IsSorted : Type 0
  IsSorted = (i j : ℕ) (p q : EarleySet) → i < j → slice_get places i ≡ Some p → slice_get places j ≡ Some q
      → p.position < q.position

  -- a place at the position is there
  abbrev pub HasPlaceAt : ℕ → Type 0
  HasPlaceAt position = (p : EarleySet) × (place_at places position ≡ Some p)

  -- the place of this number is at the position
  abbrev pub IsPlaceNumber : ℕ → ℕ → Type 0
  IsPlaceNumber position number = (p : EarleySet) × (slice_get places number ≡ Some p) × (p.position ≡ position)

  -- one of the items began at the place of this number
  abbrev pub IsOrigin : List Item → ℕ → Type 0
  IsOrigin items number = (x : Item) × Contains items x × IsPlaceNumber x.origin number

  -- no item began after its place
  abbrev pub AreBack : Type 0
  AreBack = (position : ℕ) (p : EarleySet) → place_at places position ≡ Some p → (x : Item) → Contains p.items x
      → x.origin ≤ position

  -- Each place but the last is one where an item of the next place began. So the last place reaches each: an item of it
  -- began at the one before, an item of that one at the one before that, and so on to the first. A place that nothing
  -- reaches isn't there.
  abbrev pub AreLinked : Type 0
  AreLinked = (number : ℕ) (p q : EarleySet) → slice_get places number ≡ Some p
      → slice_get places (number + 1) ≡ Some q → (x : Item) × Contains q.items x × (x.origin ≡ p.position)

  -- ---- what is kept after a new place

  -- the number after the last place where one of the items began, and 0 where none did
  pub record IsReach (items : List Item) (count : ℕ) : Type 0 where
    pub within : count ≤ length places
    pub all : (number : ℕ) → IsOrigin items number → number < count
    pub last : (number : ℕ) → number + 1 ≡ count → IsOrigin items number

-- The place is the last of the new ones, and the others are old ones: each where an item of a new one began, if no item
-- began after its place, and none that the last place doesn't reach, if it was so before.
pub record IsFollowedBy (old : List EarleySet) (place : EarleySet) (new : List EarleySet) : Type 0 where
  pub ends : slice_get new (length new - 1) ≡ Some place
  pub here : place_at new place.position ≡ Some place
  pub only : (position : ℕ) (p : EarleySet) → place_at new position ≡ Some p → (place_at old position ≡ Some p)
      ⊎ ((position ≡ place.position) × (p ≡ place))
  pub linked : AreLinked old → AreLinked new
  pub first : (x : Item) → Contains place.items x → HasPlaceAt old x.origin → HasPlaceAt new x.origin
  pub closed : AreBack old → (position : ℕ) (p : EarleySet) → place_at new position ≡ Some p
      → place_at old position ≡ Some p
      → (x : Item) → Contains p.items x → HasPlaceAt old x.origin → HasPlaceAt new x.origin
