use Rattle.std.specs.Prelude.{ℕ, ◌+◌, ◌*◌, ◌/◌, ◌%◌, ◌^◌, [], ◌∷◌, ◌++◌, take, replicate}
use Rattle.std.specs.Int.{w64, from_le_bytes}
use Rattle.jm_model.specs.Words.{Text}

-- a hash so far, with more bits
unfoldable pub mix : ℕ → ℕ → ℕ
mix hash bits = ((hash + bits) % 2 ^ 64 * 11400714819323198485) % 2 ^ 64

-- fewer than eight bytes as one number, as if zeros stood after them
abbrev pub few_bytes : Text → ℕ
few_bytes text = from_le_bytes w64 (take 8 (text ++ replicate 8 0))

-- a hash so far, with the bytes of a text: eight at a time, then those that are left
unfoldable pub hash_from : ℕ → Text → ℕ
hash_from hash (a ∷ b ∷ c ∷ d ∷ e ∷ f ∷ g ∷ h ∷ rest) =
    hash_from (mix hash (from_le_bytes w64 (a ∷ b ∷ c ∷ d ∷ e ∷ f ∷ g ∷ h ∷ []))) rest
hash_from hash text = mix hash (few_bytes text)

-- the hash of a text
unfoldable pub hash_of : Text → ℕ
hash_of text = hash_from 0 text / 2 ^ 32
