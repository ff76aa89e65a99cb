-- The lines of a script, and the words of a line.
use Rattle.std.specs.Prelude.{ℕ, ◌+◌, Bool, not, ◌||◌, ◌==◌, List, [], length, filter, Option, Some, None}
use Rattle.std.specs.Borrow.{Bor}
use Rattle.std.specs.List.{slice_split, before_first}
use Rattle.std.specs.Str.Lines.{strip_carriage_return}
use Rattle.jm_model.specs.Words.{Text}

-- the byte that ends a line
abbrev pub is_line_feed : ℕ → Bool
is_line_feed b = b == 10

-- `#`, from which on a line is comment
abbrev pub is_hash : ℕ → Bool
is_hash b = b == 35

-- space and tab
abbrev pub is_blank : ℕ → Bool
is_blank b = b == 32 || b == 9

-- the lines of a script; what stands after the last line feed is a line too
abbrev pub lines_of : Text → List Text
lines_of bytes = slice_split is_line_feed bytes

-- the first of them
abbrev pub first_line : Text → Text
first_line text = before_first is_line_feed text

-- the lines of what is left of a script, if anything is, and how long they are
abbrev pub lines_left : Option (Bor Text) → List Text
lines_left None = []
lines_left (Some text) = lines_of text.now

abbrev pub bytes_left : Option (Bor Text) → ℕ
bytes_left None = 0
bytes_left (Some text) = length text.now + 1

-- what counts of a line: without a carriage return at its end, and without its comment
abbrev pub content_of : Text → Text
content_of line = before_first is_hash (strip_carriage_return line)

abbrev pub is_some_word : Text → Bool
is_some_word word = not (length word == 0)

-- the words of a line: what stands between its blanks
abbrev pub words_of : Text → List Text
words_of line = filter is_some_word (slice_split is_blank (content_of line))
