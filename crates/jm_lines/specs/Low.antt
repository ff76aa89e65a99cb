-- The bytes below `$`, as the bits of a number tell them.
use Rattle.std.specs.Prelude.{ℕ, ◌≡◌, ◌+◌, ◌≤◌, Bool, nat_lt, map, length}
use Rattle.std.specs.Simd.Lanes.{chunk, mask_l}
use Rattle.jm_model.specs.Words.{Text}

-- a byte below `$`; each at which a word ends is one
abbrev pub is_low : ℕ → Bool
is_low b = nat_lt b 36

-- the bits of a number tell of some bytes from a place on which are low
pub record TellsLow (text : Text) (at low : ℕ) : Type 0 where
  pub count : ℕ
  pub few : count ≤ 32
  pub within : at + count ≤ length text
  pub told : low ≡ mask_l (map is_low (chunk at count text))
