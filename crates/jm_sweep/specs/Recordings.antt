-- The parts of a recording.
use Rattle.std.specs.Prelude.{ℕ, ◌≤◌, Bool, false, List, [], ◌∷◌, length, map, slice_range}
use Rattle.std.specs.List.{slice_split, join_with_byte}
use Rattle.std.specs.Str.{bytes_eq}
use Rattle.jm_model.specs.Words.{Text}
use Rattle.jm_lines.specs.Lines.{lines_of, words_of}

-- `---`
abbrev pub parting_word : Text
parting_word = 45 ∷ 45 ∷ 45 ∷ []

-- the one word is `---`
abbrev pub are_parting : List Text → Bool
are_parting (word ∷ []) = bytes_eq word parting_word
are_parting _ = false

-- a line at which a recording is cut: outside comment, `---` is its only word
abbrev pub is_parting : Text → Bool
is_parting line = are_parting (words_of line)

-- the parts: the lines between parting lines, with a line feed between two lines; a recording without parting lines is
-- one part
abbrev pub parts_of : Text → List Text
parts_of bytes = map (join_with_byte 10) (slice_split is_parting (lines_of bytes))

-- the bytes from one place to another
abbrev pub span_text : Text → ℕ × ℕ → Text
span_text bytes span = slice_range bytes span.0 span.1

abbrev pub LiesWithin : Text → ℕ × ℕ → Type 0
LiesWithin bytes span = (span.0 ≤ span.1) × (span.1 ≤ length bytes)
