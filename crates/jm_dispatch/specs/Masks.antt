-- The parameters of the letters, as a watch keeps them beside its lock.
use Rattle.std.specs.Prelude.{◌≡◌, ℕ, ◌<◌, ◌≤◌, List, length, slice_index}
use Rattle.jm_model.specs.Words.{Mask}
use Rattle.jm_model.specs.Meanings.{Meaning}

-- the list has the parameters of each letter
pub record AreMasksOf (m : Meaning) (masks : List Mask) : Type 0 where
  pub few : m.letters ≤ 32
  pub long : length masks ≡ 32
  pub each : (e : ℕ) → e < m.letters → slice_index masks e ≡ m.params e
