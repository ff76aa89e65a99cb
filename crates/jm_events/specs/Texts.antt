use Rattle.std.specs.Prelude.{ℕ, ◌≡◌, ◌≤◌, ◌<◌, ◌^◌, List, [], ◌∷◌, All, map, length, slice_range, IsUtf8}
use Rattle.std.specs.List.{IsDistinct}
use Rattle.std.specs.Str.{bytes_eq}
use Rattle.jm_model.specs.Words.{Text}
use Rattle.jm_events.specs.Hash.{hash_of}

-- the texts that end at these places of a block, from a place on
abbrev pub texts_from : ℕ → List ℕ → List ℕ → List Text
texts_from start bytes [] = []
texts_from start bytes (end ∷ ends) = slice_range bytes start end ∷ texts_from end bytes ends

-- the ends rise from a place on, up to the end of a block
abbrev pub Rise : ℕ → List ℕ → ℕ → Type 0
Rise start [] len = start ≡ len
Rise start (end ∷ ends) len = (start ≤ end) × Rise end ends len

-- distinct texts that fill a block, with their hashes
pub record AreTexts (bytes ends hashes : List ℕ) : Type 0 where
  pub rise : Rise 0 ends (length bytes)
  pub utf8 : All IsUtf8 (texts_from 0 bytes ends)
  pub distinct : IsDistinct bytes_eq (texts_from 0 bytes ends)
  pub hashed : hashes ≡ map hash_of (texts_from 0 bytes ends)
  pub few : length ends < 2 ^ 32
