-- The numbers of objects: an object has the place of its first mention.
use Rattle.std.specs.Prelude.{ℕ, ◌≡◌, List, [], ◌∷◌, ◌++◌, unwrap_or}
use Rattle.jm_model.specs.Words.{Text}
use Rattle.jm_events.specs.Names.{number_of, with_name}

-- how many names of objects there are at most
abbrev pub most_objects : ℕ
most_objects = 65536

-- the names after some mentions, in order
abbrev pub mentioned : List Text → List Text → List Text
mentioned names [] = names
mentioned names (word ∷ words) = mentioned (with_name names word) words

-- the number of a word that is mentioned now
abbrev pub number_at_mention : List Text → Text → ℕ
number_at_mention names word = unwrap_or (number_of (with_name names word) word) 0

-- the numbers of the words that are mentioned, in order
abbrev pub numbers_of : List Text → List Text → List ℕ
numbers_of names [] = []
numbers_of names (word ∷ words) = number_at_mention names word ∷ numbers_of (with_name names word) words

-- the old names, and perhaps new ones at the end
pub record IsExtension (old new : List Text) : Type 0 where
  pub added : List Text
  pub at_end : new ≡ old ++ added
